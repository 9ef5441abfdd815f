use Rattle.c104_tests_net.proofs.ways_out.send_to_next_but_one.Goals as goal

pub returns-in_err-send_text-2 : goal.returns-in_err-send_text-2
returns-in_err-send_text-2 c plan image plain calm = c.send_text-2.ensures plan image plain (c.send_text.ensures plan image plain calm)

pub returns-in_err-send_text-3 : goal.returns-in_err-send_text-3
returns-in_err-send_text-3 c plan image plain calm =
    c.send_text-3.ensures plan image plain (c.send_text-2.ensures plan image plain (c.send_text.ensures plan image plain calm))

pub returns : goal.returns
returns c plan image plain calm =
    c.send_text-3.ensures plan image plain (c.send_text-2.ensures plan image plain (c.send_text.ensures plan image plain calm))
