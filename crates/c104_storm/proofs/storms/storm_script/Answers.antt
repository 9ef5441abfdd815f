use Rattle.c104_storm.proofs.StormEnds.{from_plan, storm_ends, storm_stops}
use Rattle.c104_storm.proofs.storms.storm_script.Goals as goal

pub returns-in-Ok : goal.returns-in-Ok
returns-in-Ok g c plan image is =
    storm_ends _ plan image _ _ _ _ _ c.answer_sends.new.sending c.in-Ok.is_long c.storm_net.result
    (from_plan plan image _ _ _ _ _ _ _ is c.in-Ok.ensures) c.storm_net.ensures

pub returns-in-Err : goal.returns-in-Err
returns-in-Err g c plan image is =
    storm_stops _ plan image _ _ _ _ _ _ (from_plan plan image _ _ _ _ _ _ _ is c.in-Err.ensures)
