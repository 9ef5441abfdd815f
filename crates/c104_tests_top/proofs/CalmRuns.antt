-- A script that is calm has the premises of the theorem about packets, where no link puts random headers.
use Rattle.c104_check.specs.{ChannelDependencies.IsNeverRandomized, Routes.{IsAccepted, Routes, routes_of}}
use Rattle.{c104_describe.specs.PlanText.read_description, c104_event.specs.declared.events.Event.Event, c104_label.specs.Images.IsImageBy}
use Rattle.{c104_label.specs.Images.IsImageOf, c104_net.specs.Unchanged.MayHappen, c104_plan.specs.{PlanImage.{Fits, Image}, Plans.IsPlan}}
use Rattle.c104_plan.specs.{Plans.Plan, TextCut.lines, declared.plans.Shape.{Shape, TheVariants.Hand}}
use Rattle.c104_script.specs.{Script.read_script_line, declared.{faults.LineFault.LineFault, places.Request.Request}}
use Rattle.c104_session.specs.{PrintedPackets.IsUnchangedRun, PrintedRuns.PrintsPacketsOf, RunCommands.{DescriptionEnds, setup_output}}
use Rattle.c104_setup.specs.{Setups.{ComesTo, SetupResult}, declared.status.Status.TheVariants.Done}
use Rattle.{c104_stream.specs.ScriptLines.most_script, c104_switch.specs.Actions.Reply, c104_tests_top.proofs.HarmlessLines.all_lines}
use Rattle.c104_tests_top.{proofs.HarmlessLines.{event_asked, harmless_leaves}, specs.HarmlessScripts.{AreHarmless, IsHarmless}}
use Rattle.{c104_tests_top.specs.PrintedTexts.{AreCalm, IsCalm, IsPrinted}, std.proofs.Common.{Err, List, None, Ok, Option, Result, Some}}
use Rattle.std.proofs.{Common.{[], ap, arith, false, length, refl, subst, sym, ℕ, ◌∙◌, ◌≡◌, ◌≤◌}, lemmas.Bool.Decides.nat_tests}
use Rattle.std.proofs.lemmas.List.Elements.{All-weaker}

event_may : (routes : Routes) → IsNeverRandomized routes → (e : Event) (r : Reply) → IsCalm (Ok (Some (Request.Asked e))) → MayHappen routes e r
event_may routes plain (Event.Send t packet) r calm = λ q entry random whole header. plain q random
event_may routes plain (Event.Control s bytes) r calm = absurd calm
event_may routes plain e r calm = tt

calm_harmless : (routes : Routes) → IsNeverRandomized routes → (asked : Result (Option Request) LineFault) → IsCalm asked → IsHarmless routes asked
calm_harmless routes plain (Ok (Some (Request.Asked e))) calm = event_asked routes e (λ r. event_may routes plain e r calm)
calm_harmless routes plain (Ok (Some (Request.Probed probe))) calm = absurd calm
calm_harmless routes plain asked calm = λ answer. tt

pub unchanged_run : (plan : Plan) (image : Image) (script : List ℕ) → IsPlan plan → Fits image plan → IsAccepted (routes_of plan image) → IsNeverRandomized (routes_of plan image) → length script ≤ most_script → AreCalm plan image (lines script) → IsUnchangedRun plan image script
unchanged_run plan image script is_plan fits accepted plain short calm = record {
  accepted = accepted;
  short = grind (arith, nat_tests);
  unchanged =
      harmless_leaves plan image is_plan fits script (subst (AreHarmless plan image) (sym (all_lines script short))
      (All-weaker (λ (line : List ℕ). IsCalm (read_script_line plan image line)) (λ (line : List ℕ). IsHarmless (routes_of plan image) (read_script_line plan image line)) (λ line. calm_harmless (routes_of plan image) plain (read_script_line plan image line)) (lines script) calm));
}

-- a plan whose own lines set the tables has one image
one_image : (shape : Shape) (plan : Plan) (i j : Image) → shape ≡ Hand → IsImageBy shape plan i → IsImageBy shape plan j → i ≡ j
one_image shape plan i j own = subst (λ s. IsImageBy s plan i → IsImageBy s plan j → i ≡ j) (sym own) (λ is also. is ∙ sym also)

-- so a run of its description that ended well has printed what a run on this network shows
one_setup : (plan : Plan) (image : Image) (script : List ℕ) (setup : SetupResult) → plan.shape ≡ Hand → IsImageOf plan image → ComesTo (Ok plan) setup → (setup_output setup script).1 ≡ false → setup ≡ Ok (plan, image)
one_setup plan image script (Ok (p, i)) own is comes ended =
    ap (λ q. Ok (q, i)) comes.0 ∙ ap (λ j. Ok (plan, j)) (one_image plan.shape plan i image own comes.1 is)
one_setup plan image script (Err why) own is comes ended = absurd (cc ended)

pub is_printed : (description script text : List ℕ) (plan : Plan) (image : Image) → read_description description ≡ Ok plan → plan.shape ≡ Hand → IsImageOf plan image → IsUnchangedRun plan image script → DescriptionEnds (read_description description) script None (Some []) (Some text) Done → PrintsPacketsOf description script → IsPrinted description script text
unfolding PrintsPacketsOf
is_printed description script text plan image described own is premises (setup, comes, printed, ended) packets =
    let came : ComesTo (read_description description) (Ok (plan, image)) = subst (λ due. ComesTo due (Ok (plan, image))) (sym described) (refl, is) in
    let same : setup ≡ Ok (plan, image) = one_setup plan image script setup own is (subst (λ due. ComesTo due setup) described comes) ended in
    record {
      plan = plan;
      image = image;
      comes = came;
      premises = premises;
      printed = printed ∙ ap (λ s. (setup_output s script).0) same;
      packets = packets plan image came premises;
    }
