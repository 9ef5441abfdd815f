-- A script that settles leaves the network quiet, so that all that was sent is printed.
use Rattle.{c104_check.specs.Routes.{Routes, routes_of}, c104_node.specs.declared.starts.NodeStart.NodeStart}
use Rattle.{c104_plan.specs.{PlanImage.{Fits, Image}, Plans.{IsPlan, Plan}}, c104_run.specs.QuietNets.IsQuiet}
use Rattle.{c104_script.specs.declared.answers.{Answer.Answer, Settled.Settled}, c104_session.proofs.DeliveredLaw.{first_lines, last_lines}}
use Rattle.c104_session.proofs.{DeliveredLaw.lines_parts, PlacedNets.{placed_starts, placed_unchanged}, PrintedLaw.printed_law}
use Rattle.c104_session.proofs.{SettledLaw.line_settles, SilentLines.lines_quiet, UnchangedNets.{IsUnchangedNet, keeps_nothing, nothing}}
use Rattle.c104_session.{proofs.UnchangedScripts.{line_leaves, lines_leave}, specs.DeliveredRuns.{EndsSettled, PrintsAllPackets}}
use Rattle.c104_session.specs.{DeliveredRuns.session_after, PrintedPackets.{IsUnchangedRun, LeaveUnchanged, PrintsPackets, line_sends}}
use Rattle.c104_session.specs.{PrintedPackets.{lines_sent, script_end}, Settling.SettlesTo, Shown.{line_answer, line_outcome, new_session}}
use Rattle.{c104_session.specs.declared.session.Session.Session, c104_stream.specs.Scripts.lines_outcome, std.proofs.Common.{List, Some}}
use Rattle.std.proofs.Common.{[], ap, refl, subst, suc, sym, ℕ, ◌++◌, ◌∙◌, ◌∷◌, ◌≡◌}

module _ (plan : Plan) (image : Image) (script : List ℕ) (is_plan : IsPlan plan) (fits : Fits image plan) (is : IsUnchangedRun plan image script) (ends : EndsSettled plan image script) where
  abbrev routes : Routes
  routes = routes_of plan image

  abbrev starts : List NodeStart
  starts = placed_starts plan image is_plan fits

  abbrev first : Session
  first = new_session plan image

  abbrev mid : Session
  mid = session_after plan image ends.front

  abbrev after : Session
  after = (line_answer mid ends.line).1

  abbrev last_ones : List (List ℕ)
  last_ones = ends.line ∷ ends.back

  all_unchanged : LeaveUnchanged routes first (ends.front ++ last_ones)
  all_unchanged = subst (LeaveUnchanged routes first) ends.lines is.unchanged

  there : IsUnchangedNet routes plan starts nothing (lines_sent first ends.front) mid.net
  there = lines_leave routes plan is_plan starts nothing (keeps_nothing routes plan starts) ends.front 1 [] first
      (first_lines routes ends.front last_ones first all_unchanged) (placed_unchanged plan image is_plan fits routes nothing tt)

  last_unchanged : LeaveUnchanged routes mid last_ones
  last_unchanged = last_lines routes ends.front last_ones 1 first all_unchanged

  -- the line leaves the network quiet
  settled : SettlesTo mid.net (Some (Answer.Settled (Settled.Done ends.count))) after.net
  settled = subst (λ a. SettlesTo mid.net a after.net) ends.settled
      (line_settles mid after ends.line (line_answer mid ends.line).0 (subst IsPlan (sym there.same_plan) is_plan) there.kept refl ends.asks)

  then_there : IsUnchangedNet routes plan starts nothing (lines_sent first ends.front ++ line_sends mid ends.line) after.net
  then_there = line_leaves routes plan is_plan starts nothing (keeps_nothing routes plan starts) (lines_sent first ends.front) mid there ends.line last_unchanged.0

  -- and those behind it, which send nothing, too
  quiet_after : (number : ℕ) → IsQuiet (lines_outcome line_outcome number mid last_ones).1.net.network
  unfolding line_outcome
  quiet_after number = lines_quiet routes plan is_plan starts ends.back (suc number) (lines_sent first ends.front ++ line_sends mid ends.line) after then_there last_unchanged.1 ends.silent settled.3

  quiet : IsQuiet (script_end plan image script).net.network
  quiet =
      let parts = lines_parts ends.front last_ones 1 first in
      let end : (lines_outcome line_outcome parts.0 mid last_ones).1 ≡ script_end plan image script = sym parts.1 ∙ ap (λ ls. (lines_outcome line_outcome 1 first ls).1) (sym ends.lines) in
      subst (λ (s : Session). IsQuiet s.net.network) end (quiet_after parts.0)

  pub settled_law : PrintsAllPackets plan image script
  settled_law =
      let prints : PrintsPackets plan image script = printed_law plan image script is_plan fits is in
      record { prints = prints; all = prints.all quiet }
