use Rattle.kr_parse_trees.proofs.builder.Builder.keep_mark.Goals as goal

pub returns-clause-built : goal.returns-clause-built
returns-clause-built c =
    let h = c.requires in
    rw c.in_ok-push.ensures.pushed (record { roots = h.roots; named = h.named; count = h.count; last = h.last })
