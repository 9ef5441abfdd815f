use Rattle.c104_tests_net.proofs.CalmLeft.{origins_result}

pub returns : Rattle.c104_tests_net.proofs.packets_by_threads.left_origins.Goals.returns
returns c =
    origins_result c.args.plan.now c.args.image.now c.args.gathered c.in_ok-run.run' c.origins-lists.result c.plan-plan.ensures.left c.requires.calm
    c.in_ok-run.ensures c.requires.accepted c.starts-starts.ensures.told c.tells_its_run.ensures c.origins-lists.ensures
