-- No operator gives a reference.
use Rattle.std.specs.Prelude.{Bool, true, false, ℤ, Option, Some, None, Ok, Err, if◌then◌else◌}
use Rattle.kr_ast.specs.declared.node.UnaryOperator.{UnaryOperator}
use Rattle.kr_ast.specs.declared.node.UnaryOperator.TheVariants.{Not}
use Rattle.kr_ast.specs.declared.node.BinaryOperator.{BinaryOperator}
use Rattle.kr_ast.specs.declared.node.BinaryOperator.TheVariants.{Divide, Remainder, Equal}
use Rattle.kr_value.specs.declared.value.Value.{Value}
use Rattle.kr_value.specs.declared.value.Value.TheVariants.{Int, Bool as Truth, Null, Ref as Reference}
use Rattle.kr_classes_table.specs.declared.errors.OperatorError.TheVariants.{ZeroDivisor}
use Rattle.kr_classes_table.specs.Numbers.{Width}
use Rattle.kr_classes_table.specs.Operators.{Applied, of_wholes, of_booleans, of_references, is_zero, apply_alone}
use Rattle.kr_mean.specs.Operators.{into}

abbrev pub IsPlain : Applied → Type 0
IsPlain (Ok (Reference o)) = ⊥
IsPlain r = Unit {0}

divided : (b : Bool) (z : ℤ) → IsPlain (if b then Err ZeroDivisor else Ok (Int z))
divided true z = tt
divided false z = tt

pub wholes_plain : (width : Width) (o : BinaryOperator) (a b : ℤ) → IsPlain (of_wholes width o a b)
wholes_plain width Divide a b = divided (is_zero b) _
wholes_plain width Remainder a b = divided (is_zero b) _
wholes_plain width _ a b = tt

pub booleans_plain : (o : BinaryOperator) (a b : Bool) → IsPlain (of_booleans o a b)
booleans_plain Equal a b = tt
booleans_plain _ a b = tt

pub references_plain : (o : BinaryOperator) (same : Bool) → IsPlain (of_references o same)
references_plain Equal same = tt
references_plain _ same = tt

-- nor where its result is converted
pub into_plain : (to : Option Width) (r : Applied) → IsPlain r → IsPlain (into to r)
into_plain (Some w) (Ok (Int z)) h = tt
into_plain (Some w) (Ok (Truth b)) h = tt
into_plain (Some w) (Ok Null) h = tt
into_plain (Some w) (Ok (Reference o)) h = absurd h
into_plain (Some w) (Err e) h = tt
into_plain None r h = h

pub alone_plain : (width : Width) (o : UnaryOperator) (v : Value) → IsPlain (apply_alone width o v)
alone_plain width Not (Int z) = tt
alone_plain width _ (Int z) = tt
alone_plain width Not (Truth b) = tt
alone_plain width _ (Truth b) = tt
alone_plain width Not Null = tt
alone_plain width _ Null = tt
alone_plain width Not (Reference o) = tt
alone_plain width _ (Reference o) = tt
