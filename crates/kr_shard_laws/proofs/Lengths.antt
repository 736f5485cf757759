-- No more contract lines are derived than there are tokens, and no more tokens spell a source than it has bytes.
use Rattle.std.proofs.Common.{ℕ, ◌+◌, ◌<◌, ◌≤◌, Bool, List, ◌∷◌, length, length-append, ap, arith}
use Rattle.kr_ast.specs.Tree.{Tree}
use Rattle.kr_classes_table.specs.Table.{items}
use Rattle.kr_lex.specs.ContractLines.{contract_spelling, head_of}
use Rattle.kr_lex.specs.Lexemes.{Lexeme}
use Rattle.kr_lex.specs.Spells.{Reaches, here, gap, token, contract}
use Rattle.kr_lex.proofs.Unique.{here_some}
use Rattle.kr_parse_grammar.specs.declared.value.Modifiers.{Modifiers}
use Rattle.kr_parse_grammar.specs.Grammar as grammar
use Rattle.kr_parse_grammar.specs.Grammar.{Der, Dotted, Heading, Imports, Modified}

-- ---- the tokens that are left are no more

pub modified_length : {i r : List Lexeme} {f : Modifiers} → Modified i f r → length r ≤ length i
modified_length grammar.nothing = omega arith
modified_length (grammar.access _ m _) = omega (arith, modified_length m)
modified_length (grammar.static _ m _) = omega (arith, modified_length m)
modified_length (grammar.final _ m _) = omega (arith, modified_length m)
modified_length (grammar.overriding _ _ m _ _ _) = omega (arith, modified_length m)

dotted_length : {i r : List Lexeme} → Dotted i r → length r ≤ length i
dotted_length grammar.no_more = omega arith
dotted_length (grammar.dot _ _ _ _ d) = omega (arith, dotted_length d)

imports_length : {i r : List Lexeme} → Imports i r → length r ≤ length i
imports_length grammar.no_import = omega arith
imports_length (grammar.import _ _ _ _ _ _ _ _ _ _ _ _ _ _ _ _ d) = omega (arith, imports_length d)

pub heading_length : {i r : List Lexeme} → Heading i r → length r ≤ length i
heading_length (grammar.unpackaged d) = imports_length d
heading_length (grammar.packaged _ _ _ _ _ d _ e) = omega (arith, dotted_length d, imports_length e)

pub shorter : {c : grammar.Class} {i r : List Lexeme} {t : Tree} → Der c i t r → length r ≤ length i
shorter grammar.absent = omega arith
shorter (grammar.present d) = shorter d
shorter grammar.end = omega arith
shorter (grammar.next d e) = omega (arith, shorter d, shorter e)
shorter (grammar.last d) = omega (arith, shorter d)
shorter (grammar.comma _ d _ e) = omega (arith, shorter d, shorter e)
shorter (grammar.simple_name _ _) = omega arith
shorter (grammar.qualified_name _ _ _ _ _ _) = omega arith
shorter (grammar.class_type d) = shorter d
shorter (grammar.generic_type _ _ d _ e _) = omega (arith, shorter d, shorter e)
shorter (grammar.array_type _ _ d _ _) = omega (arith, shorter d)
shorter (grammar.primitive_type _ _) = omega arith
shorter (grammar.reference_type d) = shorter d
shorter (grammar.number _ _) = omega arith
shorter (grammar.long_number _ _) = omega arith
shorter (grammar.truth _ _) = omega arith
shorter (grammar.falsity _ _) = omega arith
shorter (grammar.null _ _) = omega arith
shorter (grammar.this _ _) = omega arith
shorter (grammar.result_value _ _) = omega arith
shorter (grammar.old_value _ _ _ _ _ d _) = omega (arith, shorter d)
shorter (grammar.parentheses _ _ _ d _) = omega (arith, shorter d)
shorter (grammar.variable _ _) = omega arith
shorter (grammar.call _ _ _ _ _ d _) = omega (arith, shorter d)
shorter (grammar.super_call _ _ _ _ _ _ _ _ _ d _) = omega (arith, shorter d)
shorter (grammar.creation _ _ _ _ d _ e _) = omega (arith, shorter d, shorter e)
shorter (grammar.generic_creation _ _ _ _ _ _ d _ e _ _ f _) = omega (arith, shorter d, shorter e, shorter f)
shorter (grammar.diamond_creation _ _ _ _ _ _ d _ _ _ e _) = omega (arith, shorter d, shorter e)
shorter (grammar.primitive_array _ _ _ _ _ _ _ d _) = omega (arith, shorter d)
shorter (grammar.class_array _ _ _ _ d _ e _) = omega (arith, shorter d, shorter e)
shorter (grammar.field_access _ _ d _ _) = omega (arith, shorter d)
shorter (grammar.method_call _ _ _ _ d _ _ _ e _) = omega (arith, shorter d, shorter e)
shorter (grammar.array_access _ _ d _ _ e _) = omega (arith, shorter d, shorter e)
shorter (grammar.primary d) = shorter d
shorter (grammar.stepped_behind _ d _) = omega (arith, shorter d)
shorter (grammar.postfix d) = shorter d
shorter (grammar.complement _ _ d) = omega (arith, shorter d)
shorter (grammar.primitive_cast _ _ _ _ _ _ d) = omega (arith, shorter d)
shorter (grammar.reference_cast _ _ _ d _ e) = omega (arith, shorter d, shorter e)
shorter (grammar.unsigned d) = shorter d
shorter (grammar.sign _ _ d) = omega (arith, shorter d)
shorter (grammar.stepped_before _ _ d) = omega (arith, shorter d)
shorter (grammar.operand d) = shorter d
shorter (grammar.binary _ d _ _ _ e _) = omega (arith, shorter d, shorter e)
shorter (grammar.instance_of _ d _ _ e) = omega (arith, shorter d, shorter e)
shorter (grammar.operation d) = shorter d
shorter (grammar.choice _ _ d _ e _ f) = omega (arith, shorter d, shorter e, shorter f)
shorter (grammar.assign _ d _ e) = omega (arith, shorter d, shorter e)
shorter (grammar.compound _ d _ e) = omega (arith, shorter d, shorter e)
shorter (grammar.conditional d) = shorter d
shorter (grammar.assignment d) = shorter d
shorter (grammar.declarator _ _) = omega arith
shorter (grammar.initialised _ _ _ _ d) = omega (arith, shorter d)
shorter (grammar.local d e) = omega (arith, shorter d, shorter e)
shorter (grammar.final_local _ _ d e) = omega (arith, shorter d, shorter e)
shorter (grammar.assigns d) = shorter d
shorter (grammar.steps _ _ d) = omega (arith, shorter d)
shorter (grammar.is_stepped _ d _) = omega (arith, shorter d)
shorter (grammar.invokes d) = shorter d
shorter (grammar.evaluated d) = omega (arith, shorter d)
shorter (grammar.local_statement _ d _) = omega (arith, shorter d)
shorter (grammar.statement d) = shorter d
shorter (grammar.block _ _ _ d _) = omega (arith, shorter d)
shorter (grammar.empty _ _) = omega arith
shorter (grammar.evaluate _ d _) = omega (arith, shorter d)
shorter (grammar.return _ _ _ d _) = omega (arith, shorter d)
shorter (grammar.break _ _ _ _) = omega arith
shorter (grammar.continue _ _ _ _) = omega arith
shorter (grammar.if_then _ _ _ _ _ d _ e) = omega (arith, shorter d, shorter e)
shorter (grammar.if_else _ _ _ _ _ _ d _ e _ _ f) = omega (arith, shorter d, shorter e, shorter f)
shorter (grammar.while _ _ _ _ _ d _ e) = omega (arith, shorter d, shorter e)
shorter (grammar.do_while _ _ _ _ _ _ d _ _ e _ _) = omega (arith, shorter d, shorter e)
shorter (grammar.for _ _ _ _ _ _ _ d _ e _ f _ g) = omega (arith, shorter d, shorter e, shorter f, shorter g)
shorter (grammar.throw _ _ _ d _) = omega (arith, shorter d)
shorter (grammar.try _ _ _ _ _ d _ e f) = omega (arith, shorter d, shorter e, shorter f)
shorter (grammar.caught _ d _) = omega (arith, shorter d)
shorter (grammar.final_caught _ _ _ d _) = omega (arith, shorter d)
shorter (grammar.catch _ _ _ _ _ _ _ d _ _ e _) = omega (arith, shorter d, shorter e)
shorter (grammar.for_local d) = omega (arith, shorter d)
shorter (grammar.for_expressions d) = shorter d
shorter (grammar.parameter _ d _) = omega (arith, shorter d)
shorter (grammar.final_parameter _ _ _ d _) = omega (arith, shorter d)
shorter (grammar.void _ _) = omega arith
shorter (grammar.result d) = shorter d
shorter (grammar.calls_super _ _ _ _ _ _ d _ _) = omega (arith, shorter d)
shorter (grammar.nested m _ _ d) = omega (arith, modified_length m, shorter d)
shorter (grammar.field _ m _ d e _) = omega (arith, modified_length m, shorter d, shorter e)
shorter (grammar.precondition _ _ _ _ _ d _) = omega (arith, shorter d)
shorter (grammar.postcondition _ _ _ _ _ d _) = omega (arith, shorter d)
shorter (grammar.exception _ _ _ _ _ _ _ _ d _ e _) = omega (arith, shorter d, shorter e)
shorter (grammar.named_exception _ _ _ _ _ _ _ _ _ d _ _ e _) = omega (arith, shorter d, shorter e)
shorter (grammar.method _ _ _ _ _ c m d _ _ e _ _ f _) = omega (arith, shorter c, modified_length m, shorter d, shorter e, shorter f)
shorter (grammar.constructor _ _ _ _ _ m _ _ _ d _ _ e f _) = omega (arith, modified_length m, shorter d, shorter e, shorter f)
shorter grammar.no_member = omega arith
shorter (grammar.skip_member _ _ d) = omega (arith, shorter d)
shorter (grammar.member d e) = omega (arith, shorter d, shorter e)
shorter grammar.not_extended = omega arith
shorter (grammar.extended _ _ d) = omega (arith, shorter d)
shorter (grammar.class _ _ _ _ _ _ d _ e _) = omega (arith, shorter d, shorter e)
shorter grammar.no_class = omega arith
shorter (grammar.skip_class _ _ d) = omega (arith, shorter d)
shorter (grammar.another m _ d e) = omega (arith, modified_length m, shorter d, shorter e)

-- ---- contract lines

line_shorter : {i r : List Lexeme} {t : Tree} → Der grammar.Contract i t r → length r < length i
line_shorter (grammar.precondition _ _ _ _ _ d _) = omega (arith, shorter d)
line_shorter (grammar.postcondition _ _ _ _ _ d _) = omega (arith, shorter d)
line_shorter (grammar.exception _ _ _ _ _ _ _ _ d _ e _) = omega (arith, shorter d, shorter e)
line_shorter (grammar.named_exception _ _ _ _ _ _ _ _ _ d _ _ e _) = omega (arith, shorter d, shorter e)

pub lines_few : {i r : List Lexeme} {t : Tree} → Der (grammar.Many grammar.Contract) i t r → length (items t) + length r ≤ length i
lines_few grammar.end = omega arith
lines_few (grammar.next d e) = omega (arith, line_shorter d, lines_few e)

-- ---- tokens

pub tokens_few : {file : ℕ} {inside last : Bool} {front text end left : List ℕ} {list : List Lexeme} → Reaches file inside front text list last end left → length list ≤ length text
tokens_few here = omega arith
tokens_few (gap part rest e g d) = omega (arith, ap length e, length-append part rest, tokens_few d)
tokens_few (token {inside = inside} kind part rest e t d) = omega (arith, ap length e, length-append part rest, here_some inside kind part rest t, tokens_few d)
tokens_few (contract kind blank rest c d) =
    omega (arith, ap length c.spelled, length-append (head_of kind blank) rest, length-append (47 ∷ 47 ∷ 64 ∷ blank) (contract_spelling kind), tokens_few d)
