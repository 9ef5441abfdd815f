-- What is printed of an image whose registers were copied from a network that a script was done on.
use Rattle.{c104_plan.specs.{PlanImage.{Fits, Image}, Plans.Plan}, c104_readback.specs.ReadBacks.{HasRanges, HasRegisters, PrintsLeft}}
use Rattle.{c104_readback.specs.{ReadBacks.{ReadsBackOn, prints_form}, declared.forms.Form.Form}, c104_session.specs.TextRuns.IsDoneBy}
use Rattle.{c104_session.specs.declared.session.Session.Session, c104_stream.specs.{ScriptLines.is_long, Scripts.Known}}
use Rattle.std.proofs.Common.{Bool, List, None, Some, ap, arith, length, slice_get, subst, ℕ, ◌||◌, ◌∙◌, ◌≡◌}

pub fits_left : (plan : Plan) (before left : Image) → Fits before plan → left.ranges ≡ before.ranges
    → length left.settings ≡ length before.settings → Fits left plan
fits_left plan before left fits ranges count = search arith

pub prints_left : (form : Form) (plan : Plan) (image before left : Image) (session after : Session) (script : Known)
    (of_script of_form refused : Bool) (text : List ℕ) → IsDoneBy session script after of_script → Fits before plan
    → HasRanges image before → left.ranges ≡ before.ranges → length left.settings ≡ length before.settings
    → HasRegisters after.net.network left → prints_form form plan left text of_form → refused ≡ (of_script || of_form)
    → ReadsBackOn form plan image session script text refused
prints_left form plan image before left session after None of_script of_form refused text done fits same ranges count registers prints told = tt
prints_left form plan image before left session after (Some script) of_script of_form refused text done fits same ranges count registers prints told =
    subst (λ (s : Session). PrintsLeft form plan image s (is_long script) text refused) done.0 (
      left,
      record {
        ranges = λ t. ap (λ (rs : List (ℕ × ℕ)). slice_get rs t) ranges ∙ same t;
        count = count ∙ fits.settings;
        registers = registers;
      },
      (of_form, prints, told ∙ ap (λ b. b || of_form) done.1),
    )
