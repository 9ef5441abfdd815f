-- The labels that a script leaves in the registers of a network, and what is printed of them.
--     HasRegisters net left      the image has the registers of the network's switches
--     ReadsBack form script plan image text refused
use Rattle.c104_commands.specs.{Checks.TellsCheck, ImageTexts.PrintsLabels, LabelRows.PrintsRows}
use Rattle.{c104_node.specs.declared.node.NodeOf.NodeOf, c104_plan.specs.{PlanImage.Image, Plans.Plan}}
use Rattle.{c104_readback.specs.declared.forms.Form.Form, c104_regs.specs.Registers.reset_bank, c104_run.specs.Network.Network}
use Rattle.{c104_session.specs.{Shown.{line_outcome, new_session}, declared.session.Session.Session}, c104_stream.specs.ScriptLines.is_long}
use Rattle.{c104_stream.specs.Scripts.{Known, script_outcome}, c104_switch.specs.Switch.Switch}
use Rattle.c104_token.specs.declared.tokens.Token.{Token}
use Rattle.std.specs.Prelude.{Bool, List, None, Some, length, slice_get, ℕ, ⊤, ◌<◌, ◌||◌, ◌≡◌}

-- the terminals have the same labels in two images
abbrev pub HasRanges : Image → Image → Type 0
HasRanges image left = (t : ℕ) → slice_get left.ranges t ≡ slice_get image.ranges t

-- all switches of an image are as after a reset
abbrev pub AreReset : Image → Type 0
AreReset image = (k : ℕ) → k < length image.settings → slice_get image.settings k ≡ Some reset_bank.settings

-- what is set at the links of each switch of an image is what is set at those of the network's switch of that number
abbrev pub HasRegisters : Network Token → Image → Type 0
HasRegisters net left = (k : ℕ) (s : Switch Token) → k < length left.settings → slice_get net.nodes k ≡ Some (NodeOf.Switch s)
    → slice_get left.settings k ≡ Some s.settings

-- an image of a plan has the labels of another image, and the registers of a network's switches
pub record IsLeft (plan : Plan) (image : Image) (net : Network Token) (left : Image) : Type 0 where
  pub ranges : HasRanges image left
  pub count : length left.settings ≡ length plan.switches
  pub registers : HasRegisters net left

-- what each form prints of a plan with an image, and whether it refuses that
abbrev pub prints_form : Form → Plan → Image → List ℕ → Bool → Type 0
prints_form Form.Registers = PrintsLabels
prints_form Form.Rows = PrintsRows
prints_form Form.Check = TellsCheck

-- what is printed where a form prints this of an image, and whether the exit status is 1: the form refuses the image, or the
-- script is too long, or a line of it is faulty
abbrev pub PrintsLeft : Form → Plan → Image → Session → Bool → List ℕ → Bool → Type 0
PrintsLeft form plan image after long text refused =
    (left : Image) × IsLeft plan image after.net.network left
    × ((refuses : Bool) × prints_form form plan left text refuses × (refused ≡ ((long || after.faulty) || refuses)))

-- the same after a script on the network of a session, where what the reader has left of it is told
abbrev pub ReadsBackOn : Form → Plan → Image → Session → Known → List ℕ → Bool → Type 0
ReadsBackOn form plan image session None text refused = ⊤
ReadsBackOn form plan image session (Some script) text refused =
    PrintsLeft form plan image (script_outcome line_outcome session script).1 (is_long script) text refused

-- the same on the network of a plan with an image, before its first line
abbrev pub ReadsBack : Form → Known → Plan → Image → List ℕ → Bool → Type 0
ReadsBack form script plan image text refused = ReadsBackOn form plan image (new_session plan image) script text refused
