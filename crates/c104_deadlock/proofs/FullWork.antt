-- Work in a network where random headers may be put before packets: more by higher ranks, and where none are put before
-- packets the work that is left.
use Rattle.c104_check.specs.{ChannelDependencies.IsNeverRandomized, Routes.{Routes, link_settings}, Walks.port_of}
use Rattle.{c104_check.specs.declared.ports.SwitchPort.SwitchPort, c104_deadlock.proofs.WorkBounds.{level_more, sum_more, weigh_more}}
use Rattle.c104_deadlock.specs.HeaderWork.{ahead_at, ahead_by, first_ahead, full_input, full_node, full_output, full_work, none_ahead}
use Rattle.{c104_deadlock.specs.{HeaderWork.{random_ahead, random_bound, random_work, work}, Work.level}, c104_link.specs.Buffers.Outgoing}
use Rattle.{c104_node.specs.Nodes.Node, c104_plan.specs.{Plans.Plan, declared.ports.Port.Port}}
use Rattle.{c104_regs.specs.declared.settings.Settings.Settings, c104_switch.specs.{Switch.Input, declared.phase.Phase.Phase}}
use Rattle.std.proofs.{Common.{List, None, Option, Some, arith, false, length, refl, true, ℕ, ⊎_elim, ◌*◌, ◌≡◌, ◌≤◌}, Math.Nat.suc-mul}
use Rattle.std.proofs.{Math.Nat.zero-mul, lemmas.Bool.cases_Bool}

-- By higher ranks

times_more : (n a b : ℕ) → a ≤ b → n * a ≤ n * b
times_more n a b less = search (arith, zero-mul, suc-mul)

module _ (plan : Plan) (rank high ahead most : SwitchPort → ℕ) (less : (p : SwitchPort) → rank p ≤ high p) (fewer : (p : SwitchPort) → ahead p ≤ most p) where
  module _ {A : Type 0} where
    first_more : (s l : ℕ) (ph : Phase (List A)) → first_ahead plan rank ahead (ahead (port_of s l)) ph ≤ first_ahead plan high most (most (port_of s l)) ph
    first_more s l ph = search arith

    input_more : (s l : ℕ) (p : Input A) → full_input plan rank ahead s l p ≤ full_input plan high most s l p
    input_more s l p = search (arith, weigh_more, first_more)

    output_more : (q : Option Port) (out : Outgoing A) → full_output plan rank ahead (level plan rank q) (ahead_at plan rank ahead q) out ≤ full_output plan high most (level plan high q) (ahead_at plan high most q) out
    output_more q out = search (arith, level_more, weigh_more)

    node_more : (k : ℕ) (n : Node A) → full_node plan rank ahead k n ≤ full_node plan high most k n
    node_more k n = search (arith, sum_more, input_more, output_more)

    full_more : (nodes : List (Node A)) → full_work plan rank ahead nodes ≤ full_work plan high most nodes
    full_more nodes = sum_more (full_node plan rank ahead) (full_node plan high most) node_more 0 nodes

-- where no rank is higher than there are inputs, no work is above the bound
pub random_within : {A : Type 0} (plan : Plan) (routes : Routes) (rank : SwitchPort → ℕ) → ((p : SwitchPort) → rank p ≤ 32 * length plan.switches) → (nodes : List (Node A)) → random_work plan routes rank nodes ≤ random_bound plan routes nodes
random_within plan routes rank low nodes = search (arith, full_more, times_more, cases_Bool)

-- the same where as much is counted in advance
full_same : {A : Type 0} (plan : Plan) (rank ahead other : SwitchPort → ℕ) → ((p : SwitchPort) → ahead p ≡ other p) → (nodes : List (Node A)) → full_work plan rank ahead nodes ≡ full_work plan rank other nodes
full_same plan rank ahead other same nodes = search (arith, full_more)

-- where no link puts random headers before packets, the work is that of the tokens that there are
pub plain_work : {A : Type 0} (plan : Plan) (routes : Routes) (rank : SwitchPort → ℕ) → IsNeverRandomized routes → (nodes : List (Node A)) → random_work plan routes rank nodes ≡ work plan rank nodes
plain_work plan routes rank never nodes = full_same plan rank (random_ahead routes rank) none_ahead (λ p. none p (link_settings routes.settings p) refl) nodes
  where
    none : (p : SwitchPort) (x : Option Settings) → link_settings routes.settings p ≡ x → ahead_by routes.header (rank p) x ≡ 0
    none p None is = refl
    none p (Some x) is = ⊎_elim (λ (k : x.randomize ≡ true). absurd (never p (x, is, k))) (λ (k : x.randomize ≡ false). rw k refl) (cases_Bool x.randomize)
