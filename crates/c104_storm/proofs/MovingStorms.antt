-- A storm that says that it isn't quiet left a network that doesn't stand still, if no channels depend on one another in a cycle.
use Rattle.c104_check.specs.{ChannelDependencies.IsAcyclic, Routes.{IsAccepted, Routes, routes_of}}
use Rattle.c104_deadlock.proofs.{AcyclicRuns.IsAcyclicRun, StandingRuns.stands_quiet, UndoneRounds.undone_stands}
use Rattle.{c104_describe.specs.PlanText.read_description, c104_node.specs.declared.starts.NodeStart.NodeStart}
use Rattle.{c104_plan.specs.{PlanImage.{AreSettings, Fits, Image}, Plans.{IsPlan, Plan}}, c104_run.specs.FinishedRecords.record_finish}
use Rattle.c104_run.specs.{NetRecords.NetRecord, Network.network_of, QuietNets.IsQuiet, Standstill.StandsStill}
use Rattle.c104_session.proofs.{PlacedNets.{IsOfLinks, placed_set, placed_started, placed_starts, placed_steady}, PrintedRunsLaw.image_fits}
use Rattle.c104_session.proofs.{PrintedRunsLaw.{read_is_plan, sized_by}, UnchangedNets.{IsUnchangedNet, nothing, run_so_far}}
use Rattle.{c104_setup.specs.Setups.ComesTo, c104_storm.proofs.{ShownTexts.shows, StormPackets.{comes_to, left_well}}}
use Rattle.c104_storm.specs.{Endings.{IsEndText, IsEnding}, Moving.{IsMoving, NeverStandsStill, NeverStandsStillOf}, Packets.script_sent}
use Rattle.c104_storm.specs.{Texts.{audited_line, not_quiet_line}, Workers.Team, declared.endings.Ending.Ending}
use Rattle.{c104_stream.specs.ScriptLines.is_long, c104_token.specs.{Kinds.plain_kind, declared.packets.Packet.Packet}}
use Rattle.std.proofs.Common.{All, Bool, List, Ok, [], ap, arith, false, length, subst, sym, true, zero, ℕ, ⊎_elim, ◌∙◌, ◌∷◌, ◌≡◌}
use Rattle.std.proofs.lemmas.List.Elements.{All-weaker}

-- what the type of an image keeps of its settings is more than how many there are
pub of_links : (image : Image) → All AreSettings image.settings → All IsOfLinks image.settings
of_links image kept = All-weaker AreSettings IsOfLinks (λ s are. are.0) image.settings kept

-- where a network that nobody changed stands still, it is quiet
module _ (plan : Plan) (image : Image) (is_plan : IsPlan plan) (fits : Fits image plan) (sized : All IsOfLinks image.settings)
    (accepted : IsAccepted (routes_of plan image)) (acyclic : IsAcyclic (routes_of plan image))
    (sends : List (ℕ × Packet)) (net : NetRecord)
    (was : IsUnchangedNet (routes_of plan image) plan (placed_starts plan image is_plan fits) nothing sends net) where
  abbrev starts : List NodeStart
  starts = placed_starts plan image is_plan fits

  acyclic_run : IsAcyclicRun plan image starts was.events net.network.nodes
  acyclic_run = record {
    accepted = accepted;
    acyclic = acyclic;
    set = placed_set plan image is_plan fits;
    started = placed_started plan image is_plan fits sized;
    steady = placed_steady plan image is_plan fits;
    run = run_so_far (routes_of plan image) plan starts nothing sends net was;
    unchanged = was.unchanged;
  }

  stands : StandsStill plain_kind net.network → IsQuiet net.network
  stands still =
      stands_quiet plan image starts was.events net.network.nodes is_plan acyclic_run was.bytes
      (subst (λ p. StandsStill plain_kind (network_of p net.network.nodes)) was.same_plan still)

  is_moving : (StandsStill plain_kind net.network → ⊥) → IsMoving net
  is_moving moves = record {
    moves = moves;
    full = λ words none. ⊎_elim (λ still. absurd (moves still)) (λ full. full)
        (undone_stands net (subst IsPlan (sym was.same_plan) is_plan) words none);
  }

-- no other ending is told so: it begins with another letter
abbrev first : List ℕ → ℕ
first [] = zero
first (x ∷ xs) = x

not_quiet : (team : Team) (net : NetRecord) (long : Bool) (ending : Ending) (text : List ℕ) → IsEnding team net ending
    → IsEndText long net ending text → text ≡ not_quiet_line → IsQuiet net.network → ⊥
not_quiet team net long Ending.NotQuiet text is told same = is
not_quiet team net long (Ending.Stopped worker kind) text is told same =
    let letters : 119 ≡ 110 = ap first (sym told ∙ same) in
    absurd (omega (arith, letters))
not_quiet team net true Ending.Quiet text is told same =
    let letters : 97 ≡ 110 = ap first (sym told ∙ same) in
    absurd (omega (arith, letters))
not_quiet team net false Ending.Quiet text is told same =
    let letters : 97 ≡ 110 =
    ap first (sym (shows (record_finish net) (length net.network.plan.terminals) audited_line text told).text ∙ same) in
    absurd (omega (arith, letters))

-- what a storm leaves
pub never_stands_still : (team : Team) (plan : Plan) (image : Image) → IsPlan plan → Fits image plan → All IsOfLinks image.settings
    → NeverStandsStill team plan image
unfolding NeverStandsStill
never_stands_still team plan image is_plan fits sized script text refused may is same =
    is_moving plan image is_plan fits sized is.accepted is.acyclic (script_sent plan image script) may.storms.left was
    (λ still. not_quiet team may.storms.left (is_long script) may.storms.ends.ending may.end may.storms.ends.is may.storms.ends.is_text same
    (stands plan image is_plan fits sized is.accepted is.acyclic (script_sent plan image script) may.storms.left was still))
  where
    was : IsUnchangedNet (routes_of plan image) plan (placed_starts plan image is_plan fits) nothing (script_sent plan image script) may.storms.left
    was = left_well team plan image script is_plan fits is.accepted is.may may.storms.left may.storms.seats may.storms.one may.storms.done

-- of a description
pub none_of_description : (team : Team) (description : List ℕ) → NeverStandsStillOf team description
unfolding NeverStandsStillOf
none_of_description team description plan image is =
    let came = comes_to (read_description description) plan image is in
    never_stands_still team plan image (read_is_plan description plan came.0) (image_fits plan image came.1)
    (sized_by plan image plan.shape came.1)
