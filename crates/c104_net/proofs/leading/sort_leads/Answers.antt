use Rattle.{c104_net.{proofs.StableSorts.stable_is, specs.{Replays.with_ticket, declared.leading.Lead.Lead}}, std.proofs.Common.refl}
use Rattle.std.proofs.{Common.rules, lemmas.List.Sorted.{IsNonDecreasingBy-from_sort_by_key, answers_always}}

pub returns : Rattle.c104_net.proofs.leading.sort_leads.Goals.returns
returns c =
    stable_is with_ticket (λ t. record { ticket = t; place = 0; at = 0 }) (λ t. refl) _ c.sort_by_key.new.self.items
    (IsNonDecreasingBy-from_sort_by_key (λ (lead : Lead). lead.ticket) _ c.in_ok-sort_by_key.ensures.sorted (λ a r q k. search rules))
    (c.sort_by_key.ensures.stable (λ (lead : Lead). lead.ticket) (answers_always _ _ _ (λ f a r g h. search rules)))
