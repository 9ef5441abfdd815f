-- A storm's script leaves a network that nobody changed, whose terminals sent what its lines sent.
use Rattle.{c104_check.specs.Routes.Routes, c104_event.specs.declared.{events.Event.Event, faults.EventFault.EventFault}}
use Rattle.{c104_net.{proofs.SentBytes.SendsBytes, specs.Unchanged.MayHappen}, c104_node.specs.Traces.{noted_all, seatless}}
use Rattle.{c104_node.specs.declared.starts.NodeStart.NodeStart, c104_plan.specs.{Checks.{require, ◌>>=◌, ◌>>◌}, PlanImage.Image}}
use Rattle.c104_plan.specs.{Plans.{IsPlan, Plan}, TextCut.{is_plain_line, line_words, uncommented_line}}
use Rattle.c104_plan.specs.TextWords.{dots}
use Rattle.c104_run.{proofs.{RecordSteps.same_record, RoundRuns.undone_left, UndoneEvents.undone_deeds}, specs.NetRecords.NetRecord}
use Rattle.c104_run.specs.{NetRecords.{is_done, ticket_after}, Network.{Network, network_apply}, RecordedRuns.{record_apply, record_at}}
use Rattle.{c104_run.specs.{RecordedRuns.record_stage, Stages.{stage_after, stage_full}}, c104_script.proofs.ScriptBytes.AskedBytes}
use Rattle.c104_script.{proofs.ScriptBytes.line_bytes, specs.Script.{addressed_line, most_line, packet_of}}
use Rattle.c104_script.specs.Addressed.{is_undotted, received}
use Rattle.c104_script.specs.Script.{place_word, read_script_line, read_script_words, request_of, send_line, sending_line, some_request}
use Rattle.c104_script.specs.{Script.terminal_at, declared.{faults.LineFault.LineFault, places.Request.Request}}
use Rattle.c104_session.{proofs.UnchangedNets.{IsUnchangedNet, event_leaves, keeps_nothing, nothing}, specs.PrintedPackets.event_sends}
use Rattle.c104_storm.specs.{Packets.{MaySend, lines_sent, read_sends}, Sends.{answer_of_read, begins_otherwise, is_another}}
use Rattle.c104_storm.specs.{Sends.{read_send_line, send_answer, send_outcome, sending_answer}, declared.sends.Sending.Sending}
use Rattle.{c104_stream.specs.Scripts.lines_outcome, c104_switch.specs.Actions.Reply, c104_token.specs.{Kinds.plain_kind, Text.parse_words}}
use Rattle.{c104_token.specs.declared.{packets.Packet.Packet, tokens.Token.Token}, std.proofs.Common.{Bool, Err, IfOk, List, None, Ok}}
use Rattle.std.proofs.Common.{Option, Result, Some, [], ap, append-nil, append_assoc, arith, bytes_eq, codes, false, if◌then◌else◌}
use Rattle.std.proofs.Common.{length, nat_le}
use Rattle.std.proofs.{Common.{not, refl, slice_get, subst, suc, sym, true, ℕ, ◌&&◌, ◌++◌, ◌∷◌, ◌≡◌}, lemmas.Slice.Eq.bytes_eq-Decides}
use Rattle.std.specs.List.{AllByRecursion}

-- what a line that begins with `send` asks is that a packet is sent

abbrev IsSend : Event → Type 0
IsSend (Event.Send t packet) = Unit {0}
IsSend e = ⊥

abbrev IsSending : Request → Type 0
IsSending (Request.Asked e) = IsSend e
IsSending it = Unit {0}

abbrev AsksSend : Option Request → Type 0
AsksSend None = Unit {0}
AsksSend (Some it) = IsSending it

chained : {X Y F : Type 0} (P : Y → Type 0) (r : Result X F) (f : X → Result Y F) → ((x : X) → IfOk (f x) P) → IfOk (r >>= f) P
chained P (Ok x) f each = each x
chained P (Err kind) f each = tt

module _ (plan : Plan) (image : Image) where
  sent_to : (to : Result ℕ EventFault) (packet : Packet) → IsSending (request_of to (λ t. Event.Send t packet))
  sent_to (Ok t) packet = tt
  sent_to (Err kind) packet = tt

  send_asks : (place : List ℕ) (list : List (List ℕ)) → IfOk (send_line plan place list) IsSending
  send_asks place list =
      chained IsSending (place_word place) _
      (λ at. chained IsSending (packet_of (parse_words list)) _ (λ packet. sent_to (terminal_at plan at) packet))

  -- so it is where the receiver is named
  received_sends : (found : Result ℕ EventFault) (it : Request) → IsSending it → IsSending (received found it)
  received_sends (Ok t) it is = is
  received_sends (Err kind) (Request.Refused first) is = tt
  received_sends (Err kind) (Request.Asked e) is = tt
  received_sends (Err kind) (Request.Rounds count is_fair seed) is = tt
  received_sends (Err kind) Request.Settle is = tt
  received_sends (Err kind) (Request.Probed it) is = tt

  chained_is : {X Y F : Type 0} (P : X → Type 0) (Q : Y → Type 0) (r : Result X F) (f : X → Result Y F) → IfOk r P
      → ((x : X) → P x → IfOk (f x) Q) → IfOk (r >>= f) Q
  chained_is P Q (Ok x) f is each = each x is
  chained_is P Q (Err kind) f is each = tt

  checked : {Y F : Type 0} (P : Y → Type 0) (b : Bool) (kind : F) (r : Result Y F) → IfOk r P → IfOk (require b kind >> r) P
  checked P true kind r is = is
  checked P false kind r is = tt

  addressed_asks : (place : List ℕ) (list : List (List ℕ)) → IfOk (addressed_line plan image place list) IsSending
  addressed_asks place [] = send_asks place []
  addressed_asks place (to ∷ list) =
      checked IsSending (is_undotted (dots place)) LineFault.BadShape _
      (chained IsSending (place_word to) _ (λ at. search (arith, chained_is, send_asks, checked, received_sends)))

  sending_asks : (place : List ℕ) (list : List (List ℕ)) → IfOk (sending_line plan image place list) IsSending
  sending_asks place [] = send_asks place []
  sending_asks place (first ∷ more) = by_word (bytes_eq first (codes "to"))
    where
      by_word : (b : Bool) → IfOk (if b then addressed_line plan image place more else send_line plan place (first ∷ more)) IsSending
      by_word true = addressed_asks place more
      by_word false = send_asks place (first ∷ more)

  asks_send : (r : Result Request LineFault) → IfOk r IsSending → IfOk (some_request r) AsksSend
  asks_send (Ok it) is = is
  asks_send (Err kind) is = tt

  not_another : (first : List ℕ) → not (bytes_eq first (codes "send")) ≡ false → first ≡ codes "send"
  not_another first other = by_test (bytes_eq first (codes "send")) refl other
    where
      by_test : (b : Bool) → bytes_eq first (codes "send") ≡ b → not b ≡ false → first ≡ codes "send"
      by_test true is same = (bytes_eq-Decides first (codes "send")).0 is
      by_test false is same = absurd (cc same)

  send_words : (is_plain : Bool) (rest : List (List ℕ)) → IfOk (read_script_words plan image is_plain (codes "send" ∷ rest)) AsksSend
  send_words true [] = tt
  send_words false rest = tt
  send_words true (place ∷ list) = asks_send (sending_line plan image place list) (sending_asks place list)

  words_send : (is_plain : Bool) (list : List (List ℕ)) → is_another (slice_get list 0) ≡ false
      → IfOk (read_script_words plan image is_plain list) AsksSend
  words_send is_plain [] other = tt
  words_send is_plain (first ∷ rest) other =
      subst (λ (w : List ℕ). IfOk (read_script_words plan image is_plain (w ∷ rest)) AsksSend) (sym (not_another first other))
      (send_words is_plain rest)

  pub line_asks : (line : List ℕ) → IfOk (read_send_line plan image line) (λ asked. AsksSend asked × AskedBytes plan asked)
  unfolding read_script_line
  line_asks line = by_length (nat_le (length line) most_line) (line_bytes plan image line)
    where
      words : Result (Option Request) LineFault
      words = read_script_words plan image (is_plain_line (uncommented_line line)) (line_words (uncommented_line line))

      both : (r : Result (Option Request) LineFault) → IfOk r AsksSend → IfOk r (AskedBytes plan)
          → IfOk r (λ asked. AsksSend asked × AskedBytes plan asked)
      both (Ok asked) sends bytes = (sends, bytes)
      both (Err kind) sends bytes = tt

      by_first : (b : Bool) → begins_otherwise line ≡ b → IfOk words (AskedBytes plan)
          → IfOk (if b then Err LineFault.UnknownWord else words) (λ asked. AsksSend asked × AskedBytes plan asked)
      by_first true is bytes = tt
      by_first false is bytes = both words
          (words_send (is_plain_line (uncommented_line line)) (line_words (uncommented_line line)) is) bytes

      by_length : (b : Bool) → IfOk (if b then words else Err LineFault.LineTooLong) (AskedBytes plan)
          → IfOk (if b && begins_otherwise line then Err LineFault.UnknownWord else (if b then words else Err LineFault.LineTooLong))
          (λ asked. AsksSend asked × AskedBytes plan asked)
      by_length true bytes = by_first (begins_otherwise line) refl bytes
      by_length false bytes = tt

-- an event that isn't done leaves a network with its record as it was
module _ (net : NetRecord) (e : Event) where
  abbrev due_at : Bool → Result Reply EventFault × Network Token
  due_at full = if full then (Err EventFault.TraceFull, net.network) else network_apply plain_kind net.network e

  abbrev left_by : Result Reply EventFault × Network Token → NetRecord
  left_by due = record_at net.starts (stage_after true (record_stage net) e due).1

  as_it_was : (due : Result Reply EventFault × Network Token) → due.1 ≡ net.network → is_done due.0 ≡ false → left_by due ≡ net
  as_it_was due network undone =
      same_record (left_by due) net network refl
      (ap (noted_all true net.traces) (undone_deeds net.network.plan (seatless net.count) e due.0 undone))
      (ap (ticket_after net.count) undone)

  pub record_undone : is_done (record_apply net e).0 ≡ false → (record_apply net e).1 ≡ net
  record_undone undone = by_full (stage_full true (record_stage net) e && is_done (network_apply plain_kind net.network e).0) undone
    where
      by_full : (full : Bool) → is_done (due_at full).0 ≡ false → left_by (due_at full) ≡ net
      by_full true not = as_it_was (Err EventFault.TraceFull, net.network) refl refl
      by_full false not = as_it_was (network_apply plain_kind net.network e) (undone_left plain_kind net.network e not) not

-- what holds of the first and of the others

front_of : {X : Type 0} (P : X → Type 0) (xs ys : List X) → AllByRecursion P (xs ++ ys) → AllByRecursion P xs
front_of P [] ys all = tt
front_of P (x ∷ xs) ys all = (all.0, front_of P xs ys all.1)

back_of : {X : Type 0} (P : X → Type 0) (xs ys : List X) → AllByRecursion P (xs ++ ys) → AllByRecursion P ys
back_of P [] ys all = all
back_of P (x ∷ xs) ys all = back_of P xs ys all.1

module _ (routes : Routes) (plan : Plan) (is_plan : IsPlan plan) (starts : List NodeStart) where
  abbrev Is : List (ℕ × Packet) → NetRecord → Type 0
  Is sends net = IsUnchangedNet routes plan starts nothing sends net

  module _ (sends : List (ℕ × Packet)) (net : NetRecord) (was : IsUnchangedNet routes plan starts nothing sends net) where
    none_sent : Is (sends ++ []) net
    none_sent = subst (λ (l : List (ℕ × Packet)). Is l net) (sym (append-nil sends)) was

    -- a packet that was sent might be
    may_of : (e : Event) → IsSend e → (r : Reply) → AllByRecursion (MaySend routes) (event_sends e) → MayHappen routes e r
    may_of (Event.Send t packet) send r all = all.0
    may_of e send r all = absurd send

    abbrev if_done : Bool → Event → List (ℕ × Packet)
    if_done b e = if b then event_sends e else []

    sent : (e : Event) → IsSend e → SendsBytes e → AllByRecursion (MaySend routes) (if_done (is_done (record_apply net e).0) e)
        → Is (sends ++ if_done (is_done (record_apply net e).0) e) (record_apply net e).1
    sent e send bytes may = by_done (is_done (record_apply net e).0) refl may
      where
        leaves : is_done (record_apply net e).0 ≡ true → AllByRecursion (MaySend routes) (event_sends e)
            → Is (sends ++ if_done (is_done (record_apply net e).0) e) (record_apply net e).1
        leaves done all =
            event_leaves routes plan is_plan starts nothing (keeps_nothing routes plan starts) sends net e bytes was
            (λ r is. may_of e send r all)

        by_done : (b : Bool) → is_done (record_apply net e).0 ≡ b → AllByRecursion (MaySend routes) (if_done b e)
            → Is (sends ++ if_done b e) (record_apply net e).1
        by_done true done all = subst (λ (b : Bool). Is (sends ++ if_done b e) (record_apply net e).1) done (leaves done all)
        by_done false undone all = subst (Is (sends ++ [])) (sym (record_undone net e undone)) none_sent

    read_leaves : (asked : Result (Option Request) LineFault) → IfOk asked (λ it. AsksSend it × AskedBytes plan it)
        → AllByRecursion (MaySend routes) (read_sends net asked)
        → Is (sends ++ read_sends net asked) (answer_of_read net asked).1
    read_leaves (Ok None) is may = none_sent
    read_leaves (Ok (Some (Request.Asked e))) is may = sent e is.0 is.1 may
    read_leaves (Ok (Some (Request.Rounds count is_fair seed))) is may = none_sent
    read_leaves (Ok (Some Request.Settle)) is may = none_sent
    read_leaves (Ok (Some (Request.Probed it))) is may = none_sent
    read_leaves (Ok (Some (Request.Refused kind))) is may = none_sent
    read_leaves (Err kind) is may = none_sent

    line_leaves : (image : Image) (line : List ℕ) → AllByRecursion (MaySend routes) (read_sends net (read_send_line net.network.plan image line))
        → Is (sends ++ read_sends net (read_send_line net.network.plan image line)) (send_answer net image line).1
    line_leaves image line may =
        read_leaves (read_send_line net.network.plan image line)
        (subst (λ (p : Plan). IfOk (read_send_line net.network.plan image line) (λ it. AsksSend it × AskedBytes p it)) was.same_plan
        (line_asks net.network.plan image line)) may

  -- lines in turn
  pub lines_leave : (lines : List (List ℕ)) (number : ℕ) (sends : List (ℕ × Packet)) (sending : Sending)
      → AllByRecursion (MaySend routes) (lines_sent sending lines) → Is sends sending.net
      → Is (sends ++ lines_sent sending lines) (lines_outcome send_outcome number sending lines).1.net
  unfolding send_outcome sending_answer
  lines_leave [] number sends sending may was = subst (λ (l : List (ℕ × Packet)). Is l sending.net) (sym (append-nil sends)) was
  lines_leave (line ∷ lines) number sends sending may was =
      let after : Sending = (sending_answer sending line).1 in
      let here : List (ℕ × Packet) = read_sends sending.net (read_send_line sending.net.network.plan sending.image line) in
      subst (λ (l : List (ℕ × Packet)). Is l (lines_outcome send_outcome (suc number) after lines).1.net)
      (append_assoc sends here (lines_sent after lines))
      (lines_leave lines (suc number) (sends ++ here) after (back_of (MaySend routes) here (lines_sent after lines) may)
      (line_leaves sends sending.net was sending.image line (front_of (MaySend routes) here (lines_sent after lines) may)))
