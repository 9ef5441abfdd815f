-- What a run of texts prints of packets: every description that is read gives a plan, and every image fits its plan.
use Rattle.c104_describe.{proofs.DraftsKept.{empty-kept, read_lines-kept}, specs.{PlanDrafts.finished, PlanFaults.fault_at}}
use Rattle.c104_describe.specs.{PlanLines.Draft, PlanText.{empty_draft, plan_of_draft, read_description, read_plan_lines}}
use Rattle.c104_describe.specs.declared.faults.{PlanFault.PlanFault, PlanFaultKind.TheVariants.TooLong}
use Rattle.{c104_interval.specs.declared.intervals.Table.Table, c104_label.specs.Images.{IsImageBy, IsImageOf}}
use Rattle.c104_plan.specs.LabelledImages.{labelled_image, labelled_settings, labelled_switch, port_labelled_switch, with_group}
use Rattle.c104_plan.specs.{PlanImage.{Fits, Image, settings_of, switch_settings}, Plans.{IsPlan, Plan}, TextCut.{lines, most_bytes}}
use Rattle.c104_plan.specs.declared.{plans.Shape.{Shape, TheVariants.{Cube, Hand, Mesh, Tree, UpDown}}, ports.Port.Port}
use Rattle.c104_regs.specs.declared.{registers.TheConstants.LINKS, settings.Settings.Settings}
use Rattle.c104_session.proofs.{DeliveredLaw.delivered_law, PlacedNets.IsOfLinks, PrintedLaw.printed_law, SettledScripts.settled_law}
use Rattle.{c104_session.specs.PrintedRuns.{PrintsAllOf, PrintsPacketsOf, PrintsSettledOf}, c104_setup.specs.Setups.ComesTo}
use Rattle.std.proofs.Common.{All, Bool, Err, List, Ok, Result, arith, false, get_or, if◌then◌else◌, length, map, nat_le, subst, sym, true}
use Rattle.std.proofs.{Common.{ℕ, ◌≡◌}, lemmas.List.{Elements.All-map, FromFn.length-map-range_with_len, length-map}}
use Rattle.std.specs.List.{range_with_len}

-- an image with labels fits its plan
labelled_fits : (plan : Plan) (ranges : List (ℕ × ℕ)) (tables : List Table) (image : Image) → length ranges ≡ length plan.terminals → image ≡ labelled_image plan ranges tables → Fits image plan
labelled_fits plan ranges tables image counted is = search (arith, length-map-range_with_len)

by_shape : (plan : Plan) (image : Image) (shape : Shape) → IsImageBy shape plan image → Fits image plan
by_shape plan image shape is = search (arith, length-map, length-map-range_with_len, labelled_fits)

pub image_fits : (plan : Plan) (image : Image) → IsImageOf plan image → Fits image plan
image_fits plan image is = by_shape plan image plan.shape is

-- and has settings for each link of each switch
by_own : (plan : Plan) (switch : ℕ) → IsOfLinks (switch_settings plan switch)
unfolding switch_settings
by_own plan switch = length-map-range_with_len (λ link. settings_of plan (Port.Switch switch link)) 0 LINKS

by_label : (plan : Plan) (table : Table) (switch : ℕ) → IsOfLinks (labelled_switch plan table switch)
unfolding labelled_switch
by_label plan table switch = length-map-range_with_len (λ link. labelled_settings plan table (Port.Switch switch link)) 0 LINKS

by_ports : (plan : Plan) (tables : ℕ → Table) (groups : ℕ → Bool) (switch : ℕ) → IsOfLinks (port_labelled_switch plan tables groups switch)
unfolding port_labelled_switch
by_ports plan tables groups switch = length-map-range_with_len (λ link. with_group (groups link) (labelled_settings plan (tables link) (Port.Switch switch link))) 0 LINKS

of_each : (f : ℕ → List Settings) → ((s : ℕ) → IsOfLinks (f s)) → (ns : List ℕ) → All IsOfLinks (map f ns)
of_each f each ns = All-map IsOfLinks f ns (λ i s inside. each (get_or ns i s))

labelled_sized : (plan : Plan) (ranges : List (ℕ × ℕ)) (tables : List Table) (image : Image) → image ≡ labelled_image plan ranges tables → All IsOfLinks image.settings
labelled_sized plan ranges tables image is = search (arith, of_each, by_label)

pub sized_by : (plan : Plan) (image : Image) (shape : Shape) → IsImageBy shape plan image → All IsOfLinks image.settings
sized_by plan image Hand is = subst (λ (i : Image). All IsOfLinks i.settings) (sym is) (of_each (switch_settings plan) (by_own plan) (range_with_len 0 (length plan.switches)))
sized_by plan image (Tree root) (forest, is) = labelled_sized plan _ _ image is.is
sized_by plan image (UpDown named) (root, of, forest, is) = search (arith, of_each, by_ports)
sized_by plan image (Mesh width height terminals) is = labelled_sized plan _ _ image is.is
sized_by plan image (Cube dimensions terminals) is = labelled_sized plan _ _ image is.is

-- a description that is read gives a plan
of_draft : (read : Result Draft PlanFault) (plan : Plan) → ((last : Draft) → read ≡ Ok last → IsPlan (finished last)) → plan_of_draft read ≡ Ok plan → IsPlan plan
of_draft read plan kept is = search arith

pub read_is_plan : (text : List ℕ) (plan : Plan) → read_description text ≡ Ok plan → IsPlan plan
read_is_plan text plan is = by_length (nat_le (length text) most_bytes) is
  where
    by_length : (b : Bool) → (if b then plan_of_draft (read_plan_lines 1 (lines text) empty_draft) else Err (fault_at 0 TooLong)) ≡ Ok plan → IsPlan plan
    by_length true is = of_draft (read_plan_lines 1 (lines text) empty_draft) plan (λ last read. read_lines-kept 1 (lines text) empty_draft last empty-kept read) is
    by_length false is = absurd (cc is)

comes_to : (due : Result Plan PlanFault) (plan : Plan) (image : Image) → ComesTo due (Ok (plan, image)) → (due ≡ Ok plan) × IsImageOf plan image
comes_to due plan image is = search arith

pub printed_runs : (description script : List ℕ) → PrintsPacketsOf description script
unfolding PrintsPacketsOf
printed_runs description script plan image is = search (arith, comes_to, printed_law, read_is_plan, image_fits)

pub delivered_runs : (description script : List ℕ) → PrintsAllOf description script
unfolding PrintsAllOf
delivered_runs description script plan image is = search (arith, comes_to, delivered_law, read_is_plan, image_fits, sized_by)

pub settled_runs : (description script : List ℕ) → PrintsSettledOf description script
unfolding PrintsSettledOf
settled_runs description script plan image is = search (arith, comes_to, settled_law, read_is_plan, image_fits)
