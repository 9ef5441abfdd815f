use Rattle.{c104_lean.specs.{Seats.AreSeatsOf, Shared.record_of}, c104_storm.proofs.{StormEnds.storms_on, TeamWork.all_seats}}
use Rattle.c104_storm.{proofs.TeamWork.{applied_plan, stop_of_team, team_worked, worked_back, written_back}, specs.Workers.{IsStopOf, Team}}
use Rattle.{c104_storm.specs.Workers.team_of, c104_turns.specs.Calls.SeatView, std.proofs.Common.{List, length, subst, sym, ◌∙◌}}
use Rattle.c104_storm.proofs.storms.storm_shared.Goals as goal

pub close-net-requires-clause-own : goal.close-net-requires-clause-own
close-net-requires-clause-own g c =
    subst (AreSeatsOf c.args.shared.word_id)
    (sym (written_back c.args.seats.len c.work-worked.new.seats c.args.seats.items
    (c.work-worked.ensures.worked.0 ∙ c.as_mut_slice-list.ensures.len)))
    c.work-worked.ensures.own

pub close-net-requires-clause-all : goal.close-net-requires-clause-all
close-net-requires-clause-all g c =
    all_seats _ _ _ _ _ _ c.requires.first
    (worked_back c.args.shared.before.plan c.args.words c.args.seats.len c.args.seats.items _ c.work-worked.new.seats
    c.as_mut_slice-list.ensures.value c.as_mut_slice-list.ensures.len c.work-worked.ensures.worked)

pub returns : goal.returns
returns g c =
    let team : Team = team_of c.args.shared.terms.seats c.args.words in
    let worked =
    worked_back c.args.shared.before.plan c.args.words c.args.seats.len c.args.seats.items _ c.work-worked.new.seats
    c.as_mut_slice-list.ensures.value c.as_mut_slice-list.ensures.len c.work-worked.ensures.worked in
    let stop : IsStopOf team c.args.shared.before.plan c.work-worked.result =
    stop_of_team _ _ _ _ _ _ c.requires.first worked _
    (subst (λ (old : List SeatView). IsStopOf (team_of (length old) c.args.words) c.args.shared.before.plan c.work-worked.result)
    c.as_mut_slice-list.ensures.value c.work-worked.ensures.stopped) in
    storms_on team (record_of c.args.shared.before) c.close-net.result _ _ _ _ _ _ c.told_plan-plan.ensures.told c.close-net.ensures
    (team_worked _ _ _ _ _ _ c.requires.first worked)
    (c.write_end-written.ensures team
    (subst (λ plan. IsStopOf team plan c.work-worked.result) (sym (applied_plan _ _ _ c.close-net.ensures.applied)) stop))
