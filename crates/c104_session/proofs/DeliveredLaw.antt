-- A script that ends with rounds enough leaves an acyclic network quiet, so that all that was sent is printed.
use Rattle.c104_check.specs.{ChannelDependencies.IsAcyclic, Routes.{Routes, routes_of}, declared.ports.SwitchPort.SwitchPort}
use Rattle.c104_deadlock.proofs.{AcyclicRuns.IsAcyclicRun, FullWork.random_within, StandingRuns.stands_quiet}
use Rattle.{c104_deadlock.specs.HeaderWork.{random_bound, random_work}, c104_net.specs.Unchanged.AreStartsOf, c104_node.specs.Nodes.Node}
use Rattle.{c104_node.specs.declared.starts.NodeStart.NodeStart, c104_plan.specs.{PlanImage.{Fits, Image}, Plans.{IsPlan, Plan}}}
use Rattle.c104_run.specs.{NetRecords.NetRecord, Network.{network_of, placed_network}, QuietNets.IsQuiet, Standstill.StandsStill}
use Rattle.c104_session.proofs.{FallingWork.{IsFalling, first_orders, lines_left, lines_orders}, PlacedNets.{IsOfLinks, placed_set}}
use Rattle.c104_session.proofs.{PlacedNets.{placed_started, placed_starts, placed_steady, placed_unchanged}, PrintedLaw.printed_law}
use Rattle.c104_session.proofs.{UnchangedNets.{IsUnchangedNet, nothing, of_fact, run_so_far}, UnchangedScripts.lines_leave}
use Rattle.c104_session.proofs.WorkGrowth.{IsWorkWithin, keeps_within, weight_parts, work_falls, work_grows}
use Rattle.c104_session.specs.DeliveredRuns.{EndsWithRounds, PrintsAllPackets, sends_weight, session_after, token_weight}
use Rattle.c104_session.specs.PrintedPackets.{IsUnchangedRun, LeaveUnchanged, PrintsPackets, lines_sent, script_end, script_sent}
use Rattle.c104_session.specs.{Shown.{line_answer, line_outcome, new_session}, declared.session.Session.Session}
use Rattle.{c104_stream.specs.Scripts.lines_outcome, c104_token.specs.{Kinds.plain_kind, declared.packets.Packet.Packet}}
use Rattle.{c104_token.specs.declared.tokens.Token.Token, std.proofs.Common.{All, List, [], ap, arith, inr, length, refl, subst, suc, sym}}
use Rattle.std.proofs.Common.{ℕ, ◌*◌, ◌++◌, ◌+◌, ◌∙◌, ◌∷◌, ◌≡◌, ◌≤◌}

-- lines in two parts
pub lines_parts : (front back : List (List ℕ)) (number : ℕ) (session : Session) → (later : ℕ) × ((lines_outcome line_outcome number session (front ++ back)).1 ≡ (lines_outcome line_outcome later (lines_outcome line_outcome number session front).1 back).1)
lines_parts [] back number session = (number, refl)
lines_parts (line ∷ front) back number session = lines_parts front back (suc number) (line_outcome number session line).1

pub first_lines : (routes : Routes) (front back : List (List ℕ)) (session : Session) → LeaveUnchanged routes session (front ++ back) → LeaveUnchanged routes session front
first_lines routes [] back session all = tt
first_lines routes (line ∷ front) back session all = (all.0, first_lines routes front back (line_answer session line).1 all.1)

pub last_lines : (routes : Routes) (front back : List (List ℕ)) (number : ℕ) (session : Session) → LeaveUnchanged routes session (front ++ back) → LeaveUnchanged routes (lines_outcome line_outcome number session front).1 back
unfolding line_outcome
last_lines routes [] back number session all = all
last_lines routes (line ∷ front) back number session all = last_lines routes front back (suc number) (line_answer session line).1 all.1

-- what the first lines send weighs no more than what all do
front_less : (w : ℕ) (front back : List (List ℕ)) (session : Session) → sends_weight w (lines_sent session front) ≤ sends_weight w (lines_sent session (front ++ back))
front_less w [] back session = omega arith
front_less w (line ∷ front) back session =
    let next : Session = (line_answer session line).1 in
    search (arith, weight_parts, front_less w front back next)

module _ (plan : Plan) (image : Image) (script : List ℕ) (is_plan : IsPlan plan) (fits : Fits image plan) (sized : All IsOfLinks image.settings) (is : IsUnchangedRun plan image script) (acyclic : IsAcyclic (routes_of plan image)) (ends : EndsWithRounds plan image script) where
  abbrev routes : Routes
  routes = routes_of plan image

  abbrev starts : List NodeStart
  starts = placed_starts plan image is_plan fits

  set : AreStartsOf plan image starts
  set = placed_set plan image is_plan fits

  all_unchanged : LeaveUnchanged routes (new_session plan image) (ends.front ++ ends.back)
  all_unchanged = subst (LeaveUnchanged routes (new_session plan image)) ends.lines is.unchanged

  within : (p : SwitchPort) → acyclic.0 p ≤ 32 * length plan.switches
  within p = subst (λ m. acyclic.0 p ≤ 32 * m) fits.settings (acyclic.2 p)

  abbrev first : Session
  first = new_session plan image

  abbrev mid : Session
  mid = session_after plan image ends.front

  abbrev work : List (Node Token) → ℕ
  work nodes = random_work plan routes acyclic.0 nodes

  acyclic_run : (sends : List (ℕ × Packet)) (net : NetRecord) (was : IsUnchangedNet routes plan starts nothing sends net) → IsAcyclicRun plan image starts was.events net.network.nodes
  acyclic_run sends net was = search (arith, set, placed_started, placed_steady, run_so_far)

  -- the work falls, and where it can't the network is quiet
  falling : IsFalling routes plan is_plan starts work
  falling = record {
    falls = λ sends net e r next was due of. work_falls plan image is_plan is.accepted starts set acyclic.0 acyclic.1 within nothing sends net was r next due.1 e of due.0;
    grows_none = λ sends net e r next was due may bytes none.
        (let more = work_grows plan image is_plan is.accepted starts set acyclic.0 acyclic.1 within nothing sends net was r next due.1 e due.0 may bytes in
        let same : work next.nodes ≤ work net.network.nodes + 0 = subst (λ s. work next.nodes ≤ work net.network.nodes + sends_weight (token_weight plan routes) s) none more in
        omega (arith, same));
    rests = λ sends net was still. stands_quiet plan image starts was.events net.network.nodes is_plan (acyclic_run sends net was) was.bytes (subst (λ p. StandsStill plain_kind (network_of p net.network.nodes)) was.same_plan still);
  }

  there : IsUnchangedNet routes plan starts (IsWorkWithin plan image acyclic.0) (lines_sent first ends.front) mid.net
  there = lines_leave routes plan is_plan starts (IsWorkWithin plan image acyclic.0) (keeps_within plan image is_plan is.accepted starts set acyclic.0 acyclic.1 within) ends.front 1 [] first
      (first_lines routes ends.front ends.back first all_unchanged)
      (placed_unchanged plan image is_plan fits routes (IsWorkWithin plan image acyclic.0) (omega (arith, at_first)))
    where
      at_first : work (placed_network plan image).nodes ≤ random_bound {A = Token} plan routes (placed_network plan image).nodes
      at_first = random_within plan routes acyclic.0 within (placed_network plan image).nodes

  quiet : IsQuiet (script_end plan image script).net.network
  quiet =
      let parts = lines_parts ends.front ends.back 1 first in
      let end : (lines_outcome line_outcome parts.0 mid ends.back).1 ≡ script_end plan image script = sym parts.1 ∙ ap (λ ls. (lines_outcome line_outcome 1 first ls).1) (sym ends.lines) in
      let weight : ℕ = token_weight plan routes in
      let less : work mid.net.network.nodes ≤ random_bound {A = Token} plan routes (placed_network plan image).nodes + sends_weight weight (lines_sent first ends.front) = there.holds in
      let part : sends_weight weight (lines_sent first ends.front) ≤ sends_weight weight (script_sent plan image script) =
      subst (λ ls. sends_weight weight (lines_sent first ends.front) ≤ sends_weight weight (lines_sent first ls)) (sym ends.lines) (front_less weight ends.front ends.back first) in
      subst (λ (s : Session). IsQuiet s.net.network) end
      (lines_left routes plan is_plan starts work falling ends.back parts.0 (lines_sent first ends.front) mid
      (of_fact routes plan starts (IsWorkWithin plan image acyclic.0) nothing (lines_sent first ends.front) mid.net there tt)
      (lines_orders ends.front 1 first (first_orders plan image))
      (last_lines routes ends.front ends.back 1 first all_unchanged) ends.silent (inr (omega (arith, less, part, ends.enough))))

  pub delivered_law : PrintsAllPackets plan image script
  delivered_law =
      let prints : PrintsPackets plan image script = printed_law plan image script is_plan fits is in
      record { prints = prints; all = prints.all quiet }
