use Rattle.c104_audit.specs.Tests.{HasLinksTo}

-- so far it keeps them
abbrev pub invariant-loop-link : Rattle.c104_audit.proofs.wired.keeps_links.Given.invariant-loop-link
invariant-loop-link l = HasLinksTo l.lists l.node l.wired l.link
