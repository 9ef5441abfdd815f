-- A script whose lines are harmless leaves a network as it was set up.
use Rattle.{c104_check.specs.Routes.{Routes, routes_of}, c104_event.specs.declared.events.Event.Event, c104_net.specs.Unchanged.MayHappen}
use Rattle.{c104_node.specs.declared.starts.NodeStart.NodeStart, c104_plan.specs.{PlanImage.{Fits, Image}, Plans.{IsPlan, Plan}}}
use Rattle.{c104_plan.specs.TextCut.lines, c104_script.specs.{Script.read_script_line, declared.answers.Answer.Answer}}
use Rattle.c104_script.specs.declared.{answers.Answer.TheVariants.Replied, faults.LineFault.LineFault, places.Request.Request}
use Rattle.c104_session.proofs.{PlacedNets.{placed_starts, placed_unchanged}, UnchangedNets.{IsUnchangedNet, keeps_nothing, nothing}}
use Rattle.c104_session.{proofs.UnchangedScripts.lines_leave, specs.PrintedPackets.{LeaveUnchanged, MayAsk, lines_sent}}
use Rattle.c104_session.specs.{Shown.{answer_of_read, line_answer, line_outcome, new_session}, declared.session.Session.Session}
use Rattle.{c104_stream.specs.ScriptLines.{lines_within, most_script, script_lines}, c104_switch.specs.Actions.Reply}
use Rattle.{c104_tests_top.specs.HarmlessScripts.{AreHarmless, IsHarmless}, c104_token.specs.declared.packets.Packet.Packet}
use Rattle.std.proofs.Common.{All, Bool, Err, List, None, Ok, Option, Result, Some, [], ap, append-nil, append_assoc, arith, cond, false}
use Rattle.std.proofs.Common.{if◌then◌else◌, length, refl, subst, suc, sym, true, zero, ℕ, ◌++◌, ◌==◌, ◌∙◌, ◌∷◌, ◌≡◌, ◌≤◌}
use Rattle.std.{proofs.lemmas.List.Elements.{All-head, All-tail}, specs.List.{onto_first, slice_split}}

-- The lines of a script are those of its text

-- what was read of the first line joins the parts of what follows
abbrev onto : List ℕ → List (List ℕ) → List (List ℕ)
onto front [] = front ∷ []
onto front (part ∷ parts) = (front ++ part) ∷ parts

onto_byte : (front : List ℕ) (byte : ℕ) (parts : List (List ℕ)) → onto (front ++ byte ∷ []) parts ≡ onto front (onto_first byte parts)
onto_byte front byte [] = refl
onto_byte front byte (part ∷ parts) = ap (λ xs. xs ∷ parts) (append_assoc front (byte ∷ []) part)

abbrev parts : List ℕ → List (List ℕ)
parts text = slice_split (λ byte. byte == 0x0a) text

first_some : (byte : ℕ) (xs : List (List ℕ)) → onto [] (onto_first byte xs) ≡ onto_first byte xs
first_some byte [] = refl
first_some byte (part ∷ more) = refl

some_part : (text : List ℕ) → onto [] (parts text) ≡ parts text
some_part [] = refl
some_part (byte ∷ text) = by_feed (byte == 0x0a)
  where
    by_feed : (b : Bool) → onto [] (cond b ([] ∷ parts text) (onto_first byte (parts text))) ≡ cond b ([] ∷ parts text) (onto_first byte (parts text))
    by_feed true = refl
    by_feed false = first_some byte (parts text)

-- the first line ends at a byte, or goes on
one_more : (byte n : ℕ) (front text : List ℕ) (b : Bool) → ((part : List ℕ) → lines_within n part text ≡ onto part (parts text)) → (if b then front ∷ lines_within n [] text else lines_within n (front ++ byte ∷ []) text) ≡ onto front (cond b ([] ∷ parts text) (onto_first byte (parts text)))
one_more byte n front text true rest = ap (λ xs. front ∷ xs) (rest [] ∙ some_part text) ∙ ap (λ f. f ∷ parts text) (sym (append-nil front))
one_more byte n front text false rest = rest (front ++ byte ∷ []) ∙ onto_byte front byte (parts text)

within : (n : ℕ) (front text : List ℕ) → length text ≤ n → lines_within n front text ≡ onto front (parts text)
within n front [] few = ap (λ xs. xs ∷ []) (sym (append-nil front))
within zero front (byte ∷ text) few = absurd (omega (arith, few))
within (suc n) front (byte ∷ text) few =
    one_more byte n front text (byte == 0x0a) (λ part. within n part text (omega (arith, few)))

pub all_lines : (script : List ℕ) → length script ≤ most_script → script_lines script ≡ lines script
unfolding script_lines
all_lines script short = within most_script [] script short ∙ some_part script

-- What lines ask

pub event_asked : (routes : Routes) (e : Event) → ((r : Reply) → MayHappen routes e r) → IsHarmless routes (Ok (Some (Request.Asked e)))
event_asked routes e may (Some (Replied r)) = may r
event_asked routes e may answer = tt

-- What a script leaves

-- no line changes the image
read_image : (session : Session) (asked : Result (Option Request) LineFault) → (answer_of_read session asked).1.image ≡ session.image
read_image session (Ok None) = refl
read_image session (Ok (Some (Request.Asked e))) = refl
read_image session (Ok (Some (Request.Rounds count false seed))) = refl
read_image session (Ok (Some (Request.Rounds count true seed))) = refl
read_image session (Ok (Some Request.Settle)) = refl
read_image session (Ok (Some (Request.Probed it))) = refl
read_image session (Ok (Some (Request.Refused kind))) = refl
read_image session (Err kind) = refl

line_image : (session : Session) (line : List ℕ) → (line_answer session line).1.image ≡ session.image
unfolding line_answer
line_image session line = read_image session (read_script_line session.net.network.plan session.image line)

module _ (plan : Plan) (image : Image) (is_plan : IsPlan plan) (fits : Fits image plan) where
  abbrev routes : Routes
  routes = routes_of plan image

  abbrev starts : List NodeStart
  starts = placed_starts plan image is_plan fits

  abbrev IsLeft : List (ℕ × Packet) → Session → Type 0
  IsLeft sends session = IsUnchangedNet routes plan starts nothing sends session.net

  abbrev IsLine : List ℕ → Type 0
  IsLine line = IsHarmless routes (read_script_line plan image line)

  lines_left : (script : List (List ℕ)) (sends : List (ℕ × Packet)) (session : Session) → All IsLine script → session.image ≡ image → IsLeft sends session → LeaveUnchanged routes session script
  unfolding line_answer line_outcome
  lines_left [] sends session all loaded was = tt
  lines_left (line ∷ script) sends session all loaded was =
      let answer : Option Answer = (line_answer session line).0 in
      let may : MayAsk routes (read_script_line session.net.network.plan session.image line) answer =
      subst (λ i. MayAsk routes (read_script_line session.net.network.plan i line) answer) (sym loaded)
      (subst (λ p. MayAsk routes (read_script_line p image line) answer) (sym was.same_plan) (All-head IsLine line script all answer)) in
      let next : IsLeft (sends ++ lines_sent session (line ∷ [])) (line_answer session line).1 =
      lines_leave routes plan is_plan starts nothing (keeps_nothing routes plan starts) (line ∷ []) 1 sends session (may, tt) was in
      (may, lines_left script (sends ++ lines_sent session (line ∷ [])) (line_answer session line).1 (All-tail IsLine line script all) (line_image session line ∙ loaded) next)

  pub harmless_leaves : (script : List ℕ) → AreHarmless plan image (script_lines script) → LeaveUnchanged routes (new_session plan image) (script_lines script)
  harmless_leaves script all =
      lines_left (script_lines script) [] (new_session plan image) all refl (placed_unchanged plan image is_plan fits routes nothing tt)
