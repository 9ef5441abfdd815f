pub returns-in-Some : Rattle.c104_workers.proofs.fabric.Fabric.apply_held.Goals.returns-in-Some
returns-in-Some g c = rw c.in-Some.is c.lent_to_two.ensures
