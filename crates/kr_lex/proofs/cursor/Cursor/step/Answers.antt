use Rattle.std.proofs.Common.{◌≡◌, ◌+◌, slice_index, arith, ap, sym, ◌∙◌}
use Rattle.kr_lex.specs.Characters.{begins_character}
use Rattle.kr_lex.specs.Places.{ends_line}
use Rattle.kr_lex.specs.Cursors.{byte_before, one_if}
use Rattle.kr_lex.proofs.Positions.{line_bound, stands_at_end, stands_in_line, one_at_most}
use Rattle.kr_lex.proofs.cursor.Cursor.step.Goals as goal

pub overflow_add-line : goal.overflow_add-line
overflow_add-line c =
    let added = one_at_most (ends_line (byte_before c.args.bytes.now c.args.self.at) (slice_index c.args.bytes.now c.args.self.at)) in
    omega (arith, line_bound c.args.bytes.now c.args.self c.requires.stands c.requires.more, c.ended_lines.ensures, added)

pub returns-then-is_line_end-clause-stands : goal.returns-then-is_line_end-clause-stands
returns-then-is_line_end-clause-stands c =
    stands_at_end c.args.bytes.now c.args.self c.requires.stands c.requires.more (c.args.self.line + c.ended_lines.result) (sym c.is_line_end.ensures ∙ c.if-is_line_end.true)
    (ap (λ n. c.args.self.line + n) c.ended_lines.ensures)

pub returns-then-begins_character-clause-stands : goal.returns-then-begins_character-clause-stands
returns-then-begins_character-clause-stands c =
    let begins : one_if (begins_character (slice_index c.args.bytes.now c.args.self.at)) ≡ 1 = ap one_if (sym c.begins_character.ensures ∙ c.if-begins_character.true) in
    stands_in_line c.args.bytes.now c.args.self c.requires.stands c.requires.more c.args.self.origin (sym c.is_line_end.ensures ∙ c.if-is_line_end.false) (omega (arith, begins))

pub returns-else-begins_character-clause-stands : goal.returns-else-begins_character-clause-stands
returns-else-begins_character-clause-stands c =
    let begins : one_if (begins_character (slice_index c.args.bytes.now c.args.self.at)) ≡ 0 = ap one_if (sym c.begins_character.ensures ∙ c.if-begins_character.false) in
    stands_in_line c.args.bytes.now c.args.self c.requires.stands c.requires.more (c.args.self.origin + 1) (sym c.is_line_end.ensures ∙ c.if-is_line_end.false) (omega (arith, begins))
