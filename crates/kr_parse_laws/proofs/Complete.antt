-- The machine accepts derivable tokens, with one tree.
use Rattle.std.proofs.Common.{◌≡◌, true, false, List, [], ◌∷◌, refl, ap}
use Rattle.kr_base.specs.declared.place.Place.{Place}
use Rattle.kr_lex.specs.Lexemes.{Lexeme, number_value, long_number_value}
use Rattle.kr_ast.specs.declared.node.Primitive.TheVariants as primitives
use Rattle.kr_ast.specs.Tree as trees
use Rattle.kr_ast.specs.Tree.{Tree}
use Rattle.kr_parse_grammar.specs.declared.value.Form.{Form}
use Rattle.kr_parse_grammar.specs.declared.goal.Goal.TheVariants as goals
use Rattle.kr_parse_grammar.specs.declared.goal.Symbol.{Symbol}
use Rattle.kr_parse_grammar.specs.declared.goal.Symbol.TheVariants.{Want}
use Rattle.kr_parse_grammar.specs.Terminals.{terminal_of}
use Rattle.kr_parse_grammar.specs.Values.{StackItem, part}
use Rattle.kr_parse_grammar.specs.Made.{the_primitive, assigned, literal_of, jump}
use Rattle.kr_parse_grammar.specs.Grammar as grammar
use Rattle.kr_parse_grammar.specs.Grammar.{at, Class, Der}
use Rattle.kr_parse_grammar.specs.Machine.{Runs, done, start}
use Rattle.kr_parse_laws.specs.Laws.{Completeness, OneTree}
use Rattle.kr_parse_laws.proofs.CompleteSteps.{same}
use Rattle.kr_parse_laws.proofs.CompleteClaims.{Optional, absent, present, Listed, end, next, Parted, last, comma, ends_operand, ends_suffixes, is_assigning, NameClaim, ReferenceClaim, AnyTypeClaim, PrimaryClaim, OperandClaim, OperationClaim, ConditionalClaim, AssignmentClaim, ExpressionClaim, DeclaratorClaim, LocalClaim, StatementExpressionClaim, EvaluatedClaim, StatementClaim, BlockStatementClaim, ForInitialClaim, ParameterClaim, ResultClaim, ContractClaim, ConstructorCallClaim, ExtendedClaim, ClassClaim, MemberClaim, MembersClaim, ClassesClaim, CaughtClaim, CatchClaim}
use Rattle.kr_parse_laws.proofs.CompleteTypes as types
use Rattle.kr_parse_laws.proofs.CompleteTypes.{simple_name_claim, qualified_name_claim, primitive_claim}
use Rattle.kr_parse_laws.proofs.CompleteGenerics.{generic_claim, array_claim, reference_claim}
use Rattle.kr_parse_laws.proofs.CompletePrimary as primaries
use Rattle.kr_parse_laws.proofs.CompletePrimary.{old_claim, leaf_claim, parentheses_claim, variable_claim, call_claim, super_claim, index_claim}
use Rattle.kr_parse_laws.proofs.CompleteCreations.{creation_claim, generic_creation_claim, diamond_creation_claim, primitive_array_claim, class_array_claim}
use Rattle.kr_parse_laws.proofs.CompleteOperands.{postfix_of_primary, step_postfix, unsigned_of_postfix, complement_claim, primitive_cast_claim, reference_cast_claim, unary_of_unsigned, sign_claim, before_claim, compound_means}
use Rattle.kr_parse_laws.proofs.CompleteChains.{operand_claim, binary_claim, test_claim}
use Rattle.kr_parse_laws.proofs.CompleteExpressions.{operation_claim, choice_claim, assignment_by, conditional_claim, assignment_claim}
use Rattle.kr_parse_laws.proofs.CompleteItems.{declarator_claim, initialised_claim, local_claim, final_local_claim, assigns_claim, steps_claim, is_stepped_claim, invokes_claim, evaluated_claim}
use Rattle.kr_parse_laws.proofs.CompleteStatements.{local_statement_claim, statement_claim, block_claim, empty_claim, evaluate_claim, return_claim, throw_claim, caught_claim, final_caught_claim, catch_claim, try_claim, break_claim, continue_claim, if_then_claim, if_else_claim, while_claim, do_claim, for_claim, for_local_claim, for_expressions_claim}
use Rattle.kr_parse_laws.proofs.CompleteMembers as members
use Rattle.kr_parse_laws.proofs.CompleteMembers.{parameter_claim, final_parameter_claim, void_claim, result_claim, calls_super_claim, plain_claim, precondition_claim, postcondition_claim, exception_claim, named_exception_claim, nested_claim, constructor_claim}
use Rattle.kr_parse_laws.proofs.CompleteClasses as classes
use Rattle.kr_parse_laws.proofs.CompleteClasses.{no_member_claim, skip_member_claim, members_claim, not_extended_claim, extended_claim, no_class_claim, skip_class_claim, classes_claim, heading}

abbrev pub Claim : Class → List Lexeme → Tree → List Lexeme → Type 0
Claim grammar.ClassName = NameClaim
Claim grammar.ReferenceType = ReferenceClaim
Claim grammar.AnyType = AnyTypeClaim
Claim (grammar.Primary f) = PrimaryClaim f
Claim grammar.Postfix = OperandClaim ends_suffixes goals.Unsigned (Want goals.Postfixes ∷ [])
Claim grammar.Unsigned = OperandClaim ends_operand goals.Unsigned []
Claim grammar.Unary = OperandClaim ends_operand goals.Unary []
Claim (grammar.Operation x) = OperationClaim x
Claim grammar.Conditional = ConditionalClaim
Claim grammar.Assignment = AssignmentClaim
Claim grammar.Expression = ExpressionClaim
Claim grammar.Declarator = DeclaratorClaim
Claim grammar.Local = LocalClaim
Claim grammar.StatementExpression = StatementExpressionClaim
Claim grammar.Evaluated = EvaluatedClaim
Claim grammar.BlockStatement = BlockStatementClaim
Claim grammar.Statement = StatementClaim
Claim grammar.ForInitial = ForInitialClaim
Claim grammar.Caught = CaughtClaim
Claim grammar.Catch = CatchClaim
Claim grammar.Parameter = ParameterClaim
Claim grammar.ResultType = ResultClaim
Claim grammar.ConstructorCall = ConstructorCallClaim
Claim grammar.Contract = ContractClaim
Claim grammar.Extended = ExtendedClaim
Claim (grammar.ClassDeclaration n) = ClassClaim n
Claim (grammar.Member o n) = MemberClaim o n
Claim (grammar.Members o n) = MembersClaim o n
Claim grammar.Classes = ClassesClaim
Claim (grammar.Maybe c) = Optional (Claim c)
Claim (grammar.Many c) = Listed (Claim c)
Claim (grammar.Several c) = Parted (Claim c)

pub complete : {c : Class} {i r : List Lexeme} {t : Tree} → Der c i t r → Claim c i t r
complete (grammar.absent) = absent
complete (grammar.present d) = present (complete d)
complete (grammar.end) = end
complete (grammar.next d e) = next (complete d) (complete e)
complete (grammar.last d) = last (complete d)
complete (grammar.comma a d p e) = comma a (complete d) (ap terminal_of p) (complete e)
complete (grammar.simple_name {i = i} a p) = simple_name_claim i a (ap terminal_of p)
complete (grammar.qualified_name {i = i} a d b p q s) = qualified_name_claim i a d b (ap terminal_of p) (ap terminal_of q) (ap terminal_of s)
complete (grammar.class_type {i = i} {r = r} {t = t} d) = types.class_claim i r t (complete d)
complete (grammar.generic_type {i = i} {m = m} {r = r} {t = t} {u = u} a b d p e q) = generic_claim i m r t u a b (complete d) (ap terminal_of p) (complete e) (ap terminal_of q)
complete (grammar.array_type {i = i} {r = r} {t = t} a b d p q) = array_claim i r t a b (complete d) (ap terminal_of p) (ap terminal_of q)
complete (grammar.primitive_type {i = i} {k = k} a e) = primitive_claim i a k e
complete (grammar.reference_type {i = i} {r = r} {t = t} d) = reference_claim i r t (complete d)
complete (grammar.number {i = i} a p) = leaf_claim i a (trees.Number a.place (number_value a.text)) (ap terminal_of p) (ap (λ k. literal_of k a.place a.text) p)
complete (grammar.long_number {i = i} a p) = leaf_claim i a (trees.LongNumber a.place (long_number_value a.text)) (ap terminal_of p) (ap (λ k. literal_of k a.place a.text) p)
complete (grammar.truth {i = i} a p) = leaf_claim i a (trees.Truth a.place true) (ap terminal_of p) (ap (λ k. literal_of k a.place a.text) p)
complete (grammar.falsity {i = i} a p) = leaf_claim i a (trees.Truth a.place false) (ap terminal_of p) (ap (λ k. literal_of k a.place a.text) p)
complete (grammar.null {i = i} a p) = leaf_claim i a (trees.Null a.place) (ap terminal_of p) (ap (λ k. literal_of k a.place a.text) p)
complete (grammar.this {i = i} a p) = leaf_claim i a (trees.This a.place) (ap terminal_of p) (ap (λ k. literal_of k a.place a.text) p)
complete (grammar.result_value {i = i} a p) = leaf_claim i a (trees.Result a.place) (ap terminal_of p) (ap (λ k. literal_of k a.place a.text) p)
complete (grammar.old_value {i = i} {r = r} {t = t} a b c p q d w) = old_claim i r t a b c (ap terminal_of p) (ap terminal_of q) (complete d) (ap terminal_of w)
complete (grammar.parentheses {i = i} {r = r} {t = t} a b p d q) = parentheses_claim i r t a b (ap terminal_of p) (complete d) (ap terminal_of q)
complete (grammar.variable {i = i} a p) = variable_claim i a (ap terminal_of p)
complete (grammar.call {i = i} {r = r} {t = t} a b c p q d s) = call_claim i r t a b c (ap terminal_of p) (ap terminal_of q) (complete d) (ap terminal_of s)
complete (grammar.super_call {i = i} {r = r} {t = t} s d a b c p q e g x h) = super_claim i r t s d a b c (ap terminal_of p) (ap terminal_of q) (ap terminal_of e) (ap terminal_of g) (complete x) (ap terminal_of h)
complete (grammar.creation {i = i} {m = m} {r = r} {t = t} {u = u} a b c p d q e s) = creation_claim i m r t u a b c (ap terminal_of p) (complete d) (ap terminal_of q) (complete e) (ap terminal_of s)
complete (grammar.generic_creation {i = i} {m = m} {n = n} {r = r} {t = t} {u = u} {v = v} a b c d e p x q y s w z l) = generic_creation_claim i m n r t u v a b c d e (ap terminal_of p) (complete x) (ap terminal_of q) (complete y) (ap terminal_of s) (ap terminal_of w) (complete z) (ap terminal_of l)
complete (grammar.diamond_creation {i = i} {n = n} {r = r} {t = t} {v = v} a b c d e p x q s w z l) = diamond_creation_claim i n r t v a b c d e (ap terminal_of p) (complete x) (ap terminal_of q) (ap terminal_of s) (ap terminal_of w) (complete z) (ap terminal_of l)
complete (grammar.primitive_array {i = i} {r = r} {k = k} {u = u} a p b c s e q d w) = primitive_array_claim i r k u a p b c (ap terminal_of s) e (ap terminal_of q) (complete d) (ap terminal_of w)
complete (grammar.class_array {i = i} {m = m} {r = r} {t = t} {u = u} a b c p d q e s) = class_array_claim i m r t u a b c (ap terminal_of p) (complete d) (ap terminal_of q) (complete e) (ap terminal_of s)
complete (grammar.field_access {f = f} {i = i} {r = r} {t = t} a b d p q) = primaries.field_claim f i r t a b (complete d) (ap terminal_of p) (ap terminal_of q)
complete (grammar.method_call {f = f} {i = i} {m = m} {r = r} {t = t} {u = u} a b c d x p q s y w) = primaries.method_claim f i m r t u a b c d (complete x) (ap terminal_of p) (ap terminal_of q) (ap terminal_of s) (complete y) (ap terminal_of w)
complete (grammar.array_access {f = f} {i = i} {m = m} {r = r} {t = t} {u = u} a b x h p y q) = index_claim f i m r t u a b (complete x) h (ap terminal_of p) (complete y) (ap terminal_of q)
complete (grammar.primary {f = f} {i = i} {r = r} {t = t} d) = postfix_of_primary f i r t (complete d)
complete (grammar.stepped_behind {i = i} {r = r} {t = t} {o = o} a d e) = step_postfix i r t o a (complete d) e
complete (grammar.postfix {i = i} {r = r} {t = t} d) = unsigned_of_postfix i r t (complete d)
complete (grammar.complement {i = i} {r = r} {t = t} {o = o} a e d) = complement_claim i r t o a e (complete d)
complete (grammar.primitive_cast {i = i} {r = r} {k = k} {t = t} a p b q e s d) = primitive_cast_claim i r t k a p b (ap terminal_of q) e (ap terminal_of s) (complete d)
complete (grammar.reference_cast {i = i} {m = m} {r = r} {t = t} {u = u} a b p d q e) = reference_cast_claim i m r t u a b (ap terminal_of p) (complete d) (ap terminal_of q) (complete e)
complete (grammar.unsigned {i = i} {r = r} {t = t} d) = unary_of_unsigned i r t (complete d)
complete (grammar.sign {i = i} {r = r} {t = t} {o = o} a e d) = sign_claim i r t o a e (complete d)
complete (grammar.stepped_before {i = i} {r = r} {t = t} {o = o} a e d) = before_claim i r t o a e (complete d)
complete (grammar.operand {i = i} {r = r} {t = t} d) = operand_claim i r t (complete d)
complete (grammar.binary {l = l} {x = x} {y = y} {i = i} {m = m} {r = r} {t = t} {u = u} {o = o} a d e z h g w) = rw z at (binary_claim x y i m r t u o a (complete d) e (rw z h) (complete g) (rw z w))
complete (grammar.instance_of {x = x} {i = i} {m = m} {r = r} {t = t} {u = u} a d p h e) = test_claim x i m r t u a (complete d) (ap terminal_of p) h (complete e)
complete (grammar.operation {x = x} {i = i} {r = r} {t = t} d) = operation_claim x i r t (complete d)
complete (grammar.choice {x = x} {i = i} {m = m} {n = n} {r = r} {c = c} {t = t} {u = u} a b d p e q g) = choice_claim x i m n r c t u a b (complete d) (ap terminal_of p) (complete e) (ap terminal_of q) (complete g)
complete (grammar.assign {i = i} {m = m} {r = r} {t = t} {u = u} a d p e) = assignment_by i m r t u (trees.Assignment (at i) t u) a (complete d) (ap (λ k. is_assigning (terminal_of k)) p) (complete e) (ap (λ k. assigned k (at i) t u) p)
complete (grammar.compound {i = i} {m = m} {r = r} {t = t} {u = u} {o = o} a d e g) = assignment_by i m r t u (trees.CompoundAssignment (at i) o t u) a (complete d) (ap is_assigning (compound_means a.kind o e).0) (complete g) ((compound_means a.kind o e).1 (at i) t u)
complete (grammar.conditional {i = i} {r = r} {t = t} d) = conditional_claim i r t (complete d)
complete (grammar.assignment {i = i} {r = r} {t = t} d) = assignment_claim i r t (complete d)
complete (grammar.declarator {i = i} a p) = declarator_claim i a (ap terminal_of p)
complete (grammar.initialised {i = i} {r = r} {t = t} a b p q d) = initialised_claim i r t a b (ap terminal_of p) (ap terminal_of q) (complete d)
complete (grammar.local {i = i} {m = m} {r = r} {t = t} {u = u} d e) = local_claim i m r t u (complete d) (complete e)
complete (grammar.final_local {i = i} {m = m} {r = r} {t = t} {u = u} a p d e) = final_local_claim i m r t u a (ap terminal_of p) (complete d) (complete e)
complete (grammar.assigns {i = i} {r = r} {t = t} d) = assigns_claim i r t (complete d)
complete (grammar.steps {i = i} {r = r} {t = t} {o = o} a e d) = steps_claim i r t o a e (complete d)
complete (grammar.is_stepped {f = f} {i = i} {r = r} {t = t} {o = o} a d e) = is_stepped_claim f i r t o a (complete d) e
complete (grammar.invokes {i = i} {r = r} {t = t} d) = invokes_claim i r t (complete d)
complete (grammar.evaluated {i = i} {r = r} {t = t} d) = evaluated_claim i r t (complete d)
complete (grammar.local_statement {i = i} {r = r} {t = t} a d p) = local_statement_claim i r t a (complete d) (ap terminal_of p)
complete (grammar.statement {i = i} {r = r} {t = t} d) = statement_claim i r t (complete d)
complete (grammar.block {i = i} {r = r} {t = t} a b p d q) = block_claim i r t a b (ap terminal_of p) (complete d) (ap terminal_of q)
complete (grammar.empty {i = i} a p) = empty_claim i a (ap terminal_of p)
complete (grammar.evaluate {i = i} {r = r} {t = t} a d p) = evaluate_claim i r t a (complete d) (ap terminal_of p)
complete (grammar.return {i = i} {r = r} {t = t} a b p d q) = return_claim i r t a b (ap terminal_of p) (complete d) (ap terminal_of q)
complete (grammar.break {i = i} a b p q) = break_claim i (trees.Break a.place) a b (ap terminal_of p) (ap terminal_of q) (ap (λ k. jump k a.place) p)
complete (grammar.continue {i = i} a b p q) = continue_claim i (trees.Continue a.place) a b (ap terminal_of p) (ap terminal_of q) (ap (λ k. jump k a.place) p)
complete (grammar.if_then {i = i} {m = m} {r = r} {c = c} {s = s} a b d p q e g h) = if_then_claim i m r c s a b d (ap terminal_of p) (ap terminal_of q) (complete e) (ap terminal_of g) (complete h)
complete (grammar.if_else {i = i} {m = m} {n = n} {r = r} {c = c} {s = s} {u = u} a b d e p q x g y h shut z) = if_else_claim i m n r c s u a b d e (ap terminal_of p) (ap terminal_of q) (complete x) (ap terminal_of g) (complete y) (ap terminal_of h) shut (complete z)
complete (grammar.while {i = i} {m = m} {r = r} {c = c} {s = s} a b d p q e g h) = while_claim i m r c s a b d (ap terminal_of p) (ap terminal_of q) (complete e) (ap terminal_of g) (complete h)
complete (grammar.do_while {i = i} {m = m} {r = r} {c = c} {s = s} a b d e g p x q h y w z) = do_claim i m r c s a b d e g (ap terminal_of p) (complete x) (ap terminal_of q) (ap terminal_of h) (complete y) (ap terminal_of w) (ap terminal_of z)
complete (grammar.for {i = i} {j = j} {m = m} {n = n} {r = r} {k = k} {c = c} {u = u} {s = s} a b d e g p q x h y w z l v) = for_claim i j m n r k c u s a b d e g (ap terminal_of p) (ap terminal_of q) (complete x) (ap terminal_of h) (complete y) (ap terminal_of w) (complete z) (ap terminal_of l) (complete v)
complete (grammar.throw {i = i} {r = r} {t = t} a b p d q) = throw_claim i r t a b (ap terminal_of p) (complete d) (ap terminal_of q)
complete (grammar.try {i = i} {m = m} {k = k} {r = r} {t = t} {c = c} {u = u} a b d p q x h y z) = try_claim i m k r t c u a b d (ap terminal_of p) (ap terminal_of q) (complete x) (ap terminal_of h) (complete y) (complete z)
complete (grammar.caught {i = i} {r = r} {t = t} n d p) = caught_claim i r t n (complete d) (ap terminal_of p)
complete (grammar.final_caught {i = i} {r = r} {t = t} a n p d q) = final_caught_claim i r t a n (ap terminal_of p) (complete d) (ap terminal_of q)
complete (grammar.catch {i = i} {m = m} {r = r} {t = t} {u = u} a b d e g p q x h l y w) = catch_claim i m r t u a b d e g (ap terminal_of p) (ap terminal_of q) (complete x) (ap terminal_of h) (ap terminal_of l) (complete y) (ap terminal_of w)
complete (grammar.for_local {i = i} {r = r} {t = t} d) = for_local_claim i r t (complete d)
complete (grammar.for_expressions d) = for_expressions_claim (complete d)
complete (grammar.parameter {i = i} {r = r} {t = t} n d p) = parameter_claim i r t n (complete d) (ap terminal_of p)
complete (grammar.final_parameter {i = i} {r = r} {t = t} a n p d q) = final_parameter_claim i r t a n (ap terminal_of p) (complete d) (ap terminal_of q)
complete (grammar.void {i = i} a p) = void_claim i a (trees.PrimitiveType a.place primitives.Void) (ap terminal_of p) (ap (λ k. trees.PrimitiveType a.place (the_primitive k)) p)
complete (grammar.result {i = i} {r = r} {t = t} d) = result_claim i r t (complete d)
complete (grammar.calls_super {i = i} {r = r} {t = t} a b c d p q e g h) = calls_super_claim i r t a b c d (ap terminal_of p) (ap terminal_of q) (complete e) (ap terminal_of g) (ap terminal_of h)
complete (grammar.nested {o = o} {i = i} {j = j} {r = r} {f = f} {t = t} m h g d) = plain_claim o false i r t (nested_claim o i j r f t m h g (complete d))
complete (grammar.field {o = o} {n = n} {i = i} {j = j} {m = m} {r = r} {f = f} {t = t} {u = u} a d h e g p) = plain_claim o n i r (trees.Field (at j) f.is_static f.is_final t u) (members.field_claim o n i j m r f t u a d h (complete e) (complete g) (ap terminal_of p))
complete (grammar.precondition {i = i} {r = r} {t = t} a b c p q d w) = precondition_claim i r t a b c (ap terminal_of p) (ap terminal_of q) (complete d) (ap terminal_of w)
complete (grammar.postcondition {i = i} {r = r} {t = t} a b c p q d w) = postcondition_claim i r t a b c (ap terminal_of p) (ap terminal_of q) (complete d) (ap terminal_of w)
complete (grammar.exception {i = i} {m = m} {r = r} {t = t} {u = u} a b c d e p q s x h y w) = exception_claim i m r t u a b c d e (ap terminal_of p) (ap terminal_of q) (ap terminal_of s) (complete x) (ap terminal_of h) (complete y) (ap terminal_of w)
complete (grammar.named_exception {i = i} {m = m} {r = r} {t = t} {u = u} a b c n d e p q s x l h y w) = named_exception_claim i m r t u a b c n d e (ap terminal_of p) (ap terminal_of q) (ap terminal_of s) (complete x) (ap terminal_of l) (ap terminal_of h) (complete y) (ap terminal_of w)
complete (grammar.method {o = o} {n = n} {h = y0} {i = i} {j = j} {m = m} {k = k} {r = r} {f = f} {v = v} {t = t} {u = u} {s = s} a b c d e ks x y p q z g h w l) = members.method_claim o n y0 i j m k r f v t u s a b c d e (complete ks) x (complete y) (ap terminal_of p) (ap terminal_of q) (complete z) (ap terminal_of g) (ap terminal_of h) (complete w) (ap terminal_of l)
complete (grammar.constructor {o = o} {n = n} {i = i} {m = m} {j = j} {k = k} {r = r} {u = u} {s = s} {t = t} a b c d e x p y q z g h w v l) = plain_claim o n i r (trees.Constructor a.place u s t) (constructor_claim o n i m j k r u s t a b c d e x (ap terminal_of p) y (ap terminal_of q) (complete z) (ap terminal_of g) (ap terminal_of h) (complete w) (complete v) (ap terminal_of l))
complete (grammar.no_member {o = o} {n = n} {i = i}) = no_member_claim o n i
complete (grammar.skip_member {o = o} {n = n} {i = i} {r = r} {t = t} a p d) = skip_member_claim o n i r t a (ap terminal_of p) (complete d)
complete (grammar.member {o = o} {n = n} {i = i} {m = m} {r = r} {t = t} {u = u} d e) = members_claim o n i m r t u (complete d) (complete e)
complete (grammar.not_extended {i = i}) = not_extended_claim i
complete (grammar.extended {i = i} {r = r} {t = t} a p d) = extended_claim i r t a (ap terminal_of p) (complete d)
complete (grammar.class {n = n} {i = i} {m = m} {r = r} {t = t} {u = u} a b c d p q e g h w) = classes.class_claim n i m r t u a b c d (ap terminal_of p) (ap terminal_of q) (complete e) (ap terminal_of g) (complete h) (ap terminal_of w)
complete (grammar.no_class {i = i}) = no_class_claim i
complete (grammar.skip_class {i = i} {r = r} {t = t} a p d) = skip_class_claim i r t a (ap terminal_of p) (complete d)
complete (grammar.another {i = i} {j = j} {m = l} {r = r} {f = f} {t = t} {u = u} m h d e) = classes_claim i j l r f t u m h (complete d) (complete e)

-- the machine accepts derivable tokens
pub completeness : Completeness
completeness i t (j, h, d) =
    let c : (p : Place) × (f : Form) × ((ss : List Symbol) (vs ws : List StackItem) → Runs ss (part p f t ∷ vs) [] ws → Runs (Want goals.Classes ∷ ss) vs j ws) = complete d refl in
    (c.0, c.1, heading h [] [] (part c.0 c.1 t ∷ []) (c.2 [] [] (part c.0 c.1 t ∷ []) done))

-- a list of tokens has at most one tree
pub one_tree : OneTree
one_tree i t u d e =
    let a : (p : Place) × (f : Form) × Runs start [] i (part p f t ∷ []) = completeness i t d in
    let b : (p : Place) × (f : Form) × Runs start [] i (part p f u ∷ []) = completeness i u e in
    let z : (part a.0 a.1 t ∷ []) ≡ (part b.0 b.1 u ∷ []) = same a.2 b.2 in
    cc
