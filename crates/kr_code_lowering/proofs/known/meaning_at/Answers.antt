use Rattle.kr_code_lowering.proofs.known.meaning_at.Goals as goal

pub returns : goal.returns
returns c =
    let p = c.args.program.now in
    let s = c.args.site in
    rw c.typed-typed.ensures (c.meaning_of.ensures.meant c.typed-typed.result.now c.typed-typed.ensures)
