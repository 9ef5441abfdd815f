-- When the header that a packet begins with is no random one: where no link puts random headers before packets, and where
-- it is a label that the check accepts.
use Rattle.c104_check.specs.{ChannelDependencies.IsNeverRandomized, Routes.{IsAccepted, Routes, has_label, or_no_settings, routes_of}}
use Rattle.{c104_label.proofs.HeaderLengths.none_passes, c104_net.{proofs.RandomOwners.random_unowned, specs.Deliveries.header_of}}
use Rattle.{c104_plan.specs.{PlanImage.Image, Plans.Plan, declared.ports.Port.Port}, c104_regs.specs.Settings.header_length}
use Rattle.{c104_regs.specs.declared.settings.Settings.Settings, c104_switch.specs.Headers.header_number}
use Rattle.{c104_tests_net.specs.CalmNets.{HasLabel, IsNotRandom}, c104_token.specs.declared.packets.Packet.Packet, std.proofs.Common.List}
use Rattle.std.proofs.Common.{Some, ap, slice_get, sym, take, true, ℕ, ◌∙◌, ◌≡◌}

pub never_random : (routes : Routes) (p : Packet) → IsNeverRandomized routes → IsNotRandom routes p
never_random routes p never has (t, q, entry, (x, at, is)) = never q (x, at, is.0)

-- a random header is no label
label_not_random : (routes : Routes) (p : Packet) (t : ℕ) (range : ℕ × ℕ) → IsAccepted routes → slice_get routes.ranges t ≡ Some range → has_label range (header_of routes p) ≡ true → IsNotRandom routes p
label_not_random routes p t range accepted at label has (u, q, entry, random) =
    none_passes (λ r. has_label r (header_of routes p)) routes.ranges t range (random_unowned routes u q (header_of routes p) accepted entry random) at label

-- so a packet that begins with a label of two bytes
pub two_byte_label : (plan : Plan) (image : Image) (p : Packet) (t n h : ℕ) → IsAccepted (routes_of plan image) → n ≡ (routes_of plan image).header → n ≡ 2 → h ≡ header_number (take 2 p.bytes) → HasLabel image t h → IsNotRandom (routes_of plan image) p
two_byte_label plan image p t n h accepted length two is (range, at, label) =
    let long : (routes_of plan image).header ≡ 2 = sym length ∙ two in
    let same : h ≡ header_of (routes_of plan image) p = is ∙ ap (λ k. header_number (take k p.bytes)) (sym long) in
    label_not_random (routes_of plan image) p t range accepted at (ap (has_label range) (sym same) ∙ label)

-- headers are as long as at any link that is wired
pub length_there : (routes : Routes) (s l : ℕ) (other : Port) (all : List Settings) (x : Settings) → IsAccepted routes → Some other ≡ routes.peer (Port.Switch s l) → Some all ≡ slice_get routes.settings s → slice_get all l ≡ Some x → header_length x ≡ routes.header
length_there routes s l other all x accepted wired switch at =
    accepted.one_length (record { switch = s; link = l }) other x (sym wired) (ap (λ o. slice_get (or_no_settings o) l) (sym switch) ∙ at)
