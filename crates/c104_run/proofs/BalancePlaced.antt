-- A network is in balance at first: no link has any credit, and none has granted any.
use Rattle.{c104_link.specs.{Buffers.empty_outgoing, Steps.◌>>=◌}, c104_node.specs.{Nodes.{Node, is_switch}, Terminals.new_terminal}}
use Rattle.{c104_node.specs.declared.{ends.End.End, node.NodeOf.TheVariants.{Switch, Terminal}}, c104_plan.specs.PlanImage.{Fits, Image}}
use Rattle.c104_plan.specs.{Plans.{IsPlan, Plan}, Ports.IsSwitchPort, Wiring.peer, declared.ports.Port.Port}
use Rattle.{c104_regs.specs.{Settings.reset_settings, declared.settings.Settings.Settings}, c104_run.proofs.BalanceWires.peer_back}
use Rattle.c104_run.{proofs.BalanceWires.{switch_inside, terminal_inside}, specs.Balance.{IsSteady, credit_at, credit_of, granted_at}}
use Rattle.c104_run.specs.{Balance.granted_of, Ends.end_of, Network.{network_of, new_switch_nodes, switch_nodes, terminal_nodes}}
use Rattle.{c104_switch.specs.Switch.{new_input, new_switch_with}, std.proofs.Common.{Bool, List, Some, [], ap, arith, false, length, map}}
use Rattle.std.proofs.Common.{refl, replicate, slice_get, subst, suc, sym, true, zero, ℕ, ◌++◌, ◌+◌, ◌<◌, ◌∙◌, ◌∷◌, ◌≡◌}
use Rattle.std.proofs.lemmas.List.{length-map}
use Rattle.c104_plan.specs.declared.plans.Terminal as plans

-- the elements of two lists, one after the other
get_first : {X : Type 0} (xs ys : List X) (i : ℕ) → i < length xs → slice_get (xs ++ ys) i ≡ slice_get xs i
get_first [] ys i inside = absurd (omega arith)
get_first (x ∷ xs) ys zero inside = refl
get_first (x ∷ xs) ys (suc i) inside = get_first xs ys i (omega arith)

get_second : {X : Type 0} (xs ys : List X) (j : ℕ) → slice_get (xs ++ ys) (length xs + j) ≡ slice_get ys j
get_second {X} [] ys j = let same : length {A = X} [] + j ≡ j = omega arith in ap (slice_get ys) same
get_second (x ∷ xs) ys j = search (arith, get_second xs ys j)

-- an element of a list of one element over and over
get_replicate : {X : Type 0} (n i : ℕ) (x : X) → i < n → slice_get (replicate n x) i ≡ Some x
get_replicate zero i x inside = absurd (omega arith)
get_replicate (suc n) zero x inside = refl
get_replicate (suc n) (suc i) x inside = get_replicate n i x (omega arith)

-- an element of a list of which each was made in one way
get_map : {X Y C : Type 0} (f : X → Y) (xs : List X) (i : ℕ) → i < length xs → ((x : X) → slice_get (map f xs) i ≡ Some (f x) → C) → C
get_map f [] i inside then = absurd (omega arith)
get_map f (x ∷ xs) zero inside then = then x refl
get_map f (x ∷ xs) (suc i) inside then = get_map f xs i (omega arith) then

module _ {A : Type 0} where
  -- a switch at first, started or not and with these settings, and a terminal at first
  abbrev made_switch : ℕ → List Settings × Bool → Node A
  made_switch cap made = Switch (new_switch_with cap made.0 made.1)

  abbrev made_terminal : ℕ → plans.Terminal → Node A
  made_terminal cap t = Terminal (new_terminal cap)

  -- no credit at an end of a wire, and none granted
  abbrev IsIdle : List (Node A) → End → Type 0
  IsIdle nodes end = (credit_at nodes end ≡ Some 0) × (granted_at nodes end ≡ Some 0)

  -- a link of a switch at first, and of a terminal at first
  idle_switch : (nodes : List (Node A)) (cap : ℕ) (made : List Settings × Bool) (s l : ℕ) → slice_get nodes s ≡ Some (made_switch cap made) → l < 32 → IsIdle nodes (record { node = s; link = l })
  idle_switch nodes cap made s l is inside = (
    ap (λ o. o >>= credit_of l) is ∙ ap (λ o. o >>= (λ q. Some q.credit)) (get_replicate 32 l (empty_outgoing {A = A}) inside),
    ap (λ o. o >>= granted_of l) is ∙ ap (λ o. o >>= (λ p. Some p.buffer.granted)) (get_replicate 32 l (new_input {A = A} cap) inside),
  )

  idle_terminal : (nodes : List (Node A)) (cap : ℕ) (t : plans.Terminal) (place l : ℕ) → slice_get nodes place ≡ Some (made_terminal cap t) → IsIdle nodes (record { node = place; link = l })
  idle_terminal nodes cap t place l is = (ap (λ o. o >>= credit_of l) is, ap (λ o. o >>= granted_of l) is)

-- a network whose switches are made of these, one for each of the plan's
module _ (A X : Type 0) (plan : Plan) (xs : List X) (made : X → List Settings × Bool) (each : length xs ≡ length plan.switches) where
  abbrev switch_of : X → Node A
  switch_of x = made_switch {A = A} plan.cap (made x)

  abbrev terminal_of : plans.Terminal → Node A
  terminal_of t = made_terminal {A = A} plan.cap t

  -- its nodes
  abbrev first_nodes : List (Node A)
  first_nodes = map switch_of xs ++ map terminal_of plan.terminals

  -- the place of a switch is among the switches that were made
  among_made : (s : ℕ) → s < length plan.switches → s < length (map switch_of xs)
  among_made s inside = omega (arith, each, length-map xs switch_of)

  -- a switch of the plan
  switch_there : {C : Type 0} (s : ℕ) → s < length plan.switches → ((x : X) → slice_get first_nodes s ≡ Some (switch_of x) → C) → C
  switch_there s inside then =
      let within : s < length xs = omega (arith, each) in
      get_map switch_of xs s within (λ x is. then x (get_first (map switch_of xs) (map terminal_of plan.terminals) s (among_made s inside) ∙ is))

  -- a terminal of the plan
  terminal_there : {C : Type 0} (t : ℕ) → t < length plan.terminals → ((terminal : plans.Terminal) → slice_get first_nodes (length plan.switches + t) ≡ Some (terminal_of terminal) → C) → C
  terminal_there t inside then =
      let place : length (map switch_of xs) + t ≡ length plan.switches + t = omega (arith, each, length-map xs switch_of) in
      get_map terminal_of plan.terminals t inside (λ terminal is. then terminal (ap (slice_get first_nodes) (sym place) ∙ get_second (map switch_of xs) (map terminal_of plan.terminals) t ∙ is))

  -- each port that has a wire
  idle_port : IsPlan plan → (p q : Port) → peer plan p ≡ Some q → IsIdle first_nodes (end_of plan p)
  idle_port is_plan (Port.Switch s l) q wired =
      let exists : IsSwitchPort (length plan.switches) (Port.Switch s l) = switch_inside plan is_plan s l q wired in
      switch_there s exists.0 (λ x is. idle_switch first_nodes plan.cap (made x) s l is exists.1)
  idle_port is_plan (Port.Terminal t) q wired =
      terminal_there t (terminal_inside plan is_plan t q wired) (λ terminal is. idle_terminal first_nodes plan.cap terminal (length plan.switches + t) 0 is)

-- the kinds of nodes that were made one after the other
kinds_made : {A X : Type 0} (f : X → Node A) (b : Bool) → ((x : X) → is_switch (f x) ≡ b) → (xs : List X) → map is_switch (map f xs) ≡ replicate (length xs) b
kinds_made f b is [] = refl
kinds_made f b is (x ∷ xs) = rw (is x) (ap (λ bs. b ∷ bs) (kinds_made f b is xs))

in_place_made : {A X Y : Type 0} (f : X → Node A) (h : Y → Node A) (xs : List X) (ys : List Y) → ((x : X) → is_switch (f x) ≡ true) → ((y : Y) → is_switch (h y) ≡ false) → map is_switch (map f xs ++ map h ys) ≡ replicate (length xs) true ++ replicate (length ys) false
in_place_made f h [] ys switches terminals = kinds_made h false terminals ys
in_place_made f h (x ∷ xs) ys switches terminals = rw (switches x) (ap (λ bs. true ∷ bs) (in_place_made f h xs ys switches terminals))

-- a network at first
balanced_first : {A X : Type 0} (plan : Plan) (xs : List X) (made : X → List Settings × Bool) (each : length xs ≡ length plan.switches) → IsPlan plan → IsSteady (record { plan = plan; nodes = first_nodes A X plan xs made each })
balanced_first {A} {X} plan xs made each is_plan = record {
  in_place = in_place_made (λ x. made_switch {A = A} plan.cap (made x)) (made_terminal {A = A} plan.cap) xs plan.terminals (λ x. refl) (λ t. refl) ∙ ap (λ n. replicate n true ++ replicate (length plan.terminals) false) each;
  balanced = λ p q wired. (0, (idle_port A X plan xs made each is_plan p q wired).0, (idle_port A X plan xs made each is_plan q p (peer_back plan is_plan p q wired)).1);
}

-- a network made of a copy of the plan: each switch started with the image's settings
pub steady_made : {A : Type 0} (plan copy : Plan) (image : Image) (nodes : List (Node A)) → copy ≡ plan → nodes ≡ switch_nodes copy.cap image.settings ++ terminal_nodes copy.cap copy.terminals → Fits image plan → IsPlan copy → IsSteady (record { plan = copy; nodes = nodes })
steady_made {A} plan copy image nodes copied made fits is_plan =
    let each : length image.settings ≡ length copy.switches = (subst (Fits image) (sym copied) fits).settings in
    subst (λ (n : List (Node A)). IsSteady (record { plan = copy; nodes = n })) (sym made) (balanced_first {A = A} copy image.settings (λ settings. (settings, true)) each is_plan)

-- a new network of a copy of the plan
pub steady_new : {A : Type 0} (plan : Plan) (nodes : List (Node A)) → nodes ≡ new_switch_nodes plan.cap plan.switches ++ terminal_nodes plan.cap plan.terminals → IsPlan plan → IsSteady (record { plan = plan; nodes = nodes })
steady_new {A} plan nodes made is_plan = subst (λ (n : List (Node A)). IsSteady (record { plan = plan; nodes = n })) (sym made) (balanced_first {A = A} plan plan.switches (λ name. (replicate 32 reset_settings, false)) refl is_plan)

-- the same with a copy of the plan
pub steady_copy : {A : Type 0} (plan copy : Plan) (nodes : List (Node A)) → copy ≡ plan → IsSteady (network_of plan nodes) → IsSteady (network_of copy nodes)
steady_copy plan copy nodes same steady = subst (λ p. IsSteady (network_of p nodes)) (sym same) steady
