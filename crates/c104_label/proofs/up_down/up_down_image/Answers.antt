pub returns-clause-image : Rattle.c104_label.proofs.up_down.up_down_image.Goals.returns-clause-image
returns-clause-image g c = (c.in_ok-choice.choice.root, c.in_ok-choice.ensures, c.in_ok-image.ensures.image.0, c.in_ok-image.ensures.image.1)
