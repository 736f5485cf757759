-- Between crates: sources, and the first rule that each breaks.
use Rattle.std.specs.Prelude.{◌≡◌, map, pos, negsuc, List, [], ◌∷◌, true, false, codes, Some, None}
use Rattle.kr_ast.specs.declared.node.Primitive.TheVariants.{Int, Long, Boolean, Void}
use Rattle.kr_ast.specs.declared.node.UnaryOperator.TheVariants.{Plus, Minus, Complement, Not}
use Rattle.kr_ast.specs.declared.node.StepOperator.TheVariants.{IncrementBefore, DecrementBefore, IncrementBehind, DecrementBehind}
use Rattle.kr_ast.specs.declared.node.BinaryOperator.TheVariants.{Multiply, Divide, Remainder, Add, Subtract, ShiftLeft, ShiftRight, ShiftRightUnsigned, Less, Greater, LessOrEqual, GreaterOrEqual, Equal, NotEqual, BitAnd, BitXor, BitOr, And, Or}
use Rattle.kr_ast.specs.Tree as trees
use Rattle.kr_ast.specs.Tree.{Tree, Nil}
use Rattle.kr_types_meaning.specs.Texts.{at, list_of, class_rule_at, type_rule_at, fault_at}
use Rattle.kr_types_meaning.specs.Typing.{refusal, type_faults}
use Rattle.kr_classes_table.specs.Table.{table_of}
use Rattle.kr_value.specs.declared.value.Value.TheVariants.{Int as Whole, Bool as Holds}
use Rattle.kr_classes_table.specs.Constants.{values_of}

-- class A { } class A { }
abbrev pub c1_two : List Tree
c1_two = (list_of ((trees.Class (at 0 1 7) (codes "A") Nil Nil) ∷ (trees.Class (at 0 1 19) (codes "A") Nil Nil) ∷ [])) ∷ []

-- class A { static class B { } } @@ class B { }
abbrev pub c1_nested : List Tree
c1_nested = (list_of ((trees.Class (at 0 1 7) (codes "A") Nil (list_of ((trees.Class (at 0 1 24) (codes "B") Nil Nil) ∷ []))) ∷ [])) ∷ (list_of ((trees.Class (at 1 1 7) (codes "B") Nil Nil) ∷ [])) ∷ []

-- class HashSet { }
abbrev pub c1_collection : List Tree
c1_collection = (list_of ((trees.Class (at 0 1 7) (codes "HashSet") Nil Nil) ∷ [])) ∷ []

-- class A { static class B { } } class C { }
abbrev pub c1_fine : List Tree
c1_fine = (list_of ((trees.Class (at 0 1 7) (codes "A") Nil (list_of ((trees.Class (at 0 1 24) (codes "B") Nil Nil) ∷ []))) ∷ (trees.Class (at 0 1 38) (codes "C") Nil Nil) ∷ [])) ∷ []

-- class A extends B { }
abbrev pub c2_unknown : List Tree
c2_unknown = (list_of ((trees.Class (at 0 1 7) (codes "A") (trees.NamedType (at 0 1 17) (codes "B")) Nil) ∷ [])) ∷ []

-- class A { static class B { } } class C extends B.A { }
abbrev pub c2_qualified : List Tree
c2_qualified = (list_of ((trees.Class (at 0 1 7) (codes "A") Nil (list_of ((trees.Class (at 0 1 24) (codes "B") Nil Nil) ∷ []))) ∷ (trees.Class (at 0 1 38) (codes "C") (trees.QualifiedType (at 0 1 48) (codes "B") (codes "A")) Nil) ∷ [])) ∷ []

-- class A { static class B { } } class C extends A.B { } class D extends B { }
abbrev pub c2_fine : List Tree
c2_fine = (list_of ((trees.Class (at 0 1 7) (codes "A") Nil (list_of ((trees.Class (at 0 1 24) (codes "B") Nil Nil) ∷ []))) ∷ (trees.Class (at 0 1 38) (codes "C") (trees.QualifiedType (at 0 1 48) (codes "A") (codes "B")) Nil) ∷ (trees.Class (at 0 1 62) (codes "D") (trees.NamedType (at 0 1 72) (codes "B")) Nil) ∷ [])) ∷ []

-- class A extends A { }
abbrev pub c3_self : List Tree
c3_self = (list_of ((trees.Class (at 0 1 7) (codes "A") (trees.NamedType (at 0 1 17) (codes "A")) Nil) ∷ [])) ∷ []

-- class A extends B { } class B extends A { } class C extends A { }
abbrev pub c3_round : List Tree
c3_round = (list_of ((trees.Class (at 0 1 7) (codes "A") (trees.NamedType (at 0 1 17) (codes "B")) Nil) ∷ (trees.Class (at 0 1 29) (codes "B") (trees.NamedType (at 0 1 39) (codes "A")) Nil) ∷ (trees.Class (at 0 1 51) (codes "C") (trees.NamedType (at 0 1 61) (codes "A")) Nil) ∷ [])) ∷ []

-- class A extends B { } class B extends C { } class C { }
abbrev pub c3_fine : List Tree
c3_fine = (list_of ((trees.Class (at 0 1 7) (codes "A") (trees.NamedType (at 0 1 17) (codes "B")) Nil) ∷ (trees.Class (at 0 1 29) (codes "B") (trees.NamedType (at 0 1 39) (codes "C")) Nil) ∷ (trees.Class (at 0 1 51) (codes "C") Nil Nil) ∷ [])) ∷ []

-- class A { int x; boolean x; }
abbrev pub c4_two : List Tree
c4_two = (list_of ((trees.Class (at 0 1 7) (codes "A") Nil (list_of ((trees.Field (at 0 1 11) false false (trees.PrimitiveType (at 0 1 11) Int) (list_of ((trees.Declarator (at 0 1 15) (codes "x") Nil) ∷ []))) ∷ (trees.Field (at 0 1 18) false false (trees.PrimitiveType (at 0 1 18) Boolean) (list_of ((trees.Declarator (at 0 1 26) (codes "x") Nil) ∷ []))) ∷ []))) ∷ [])) ∷ []

-- class A extends B { int x; } class B extends C { } class C { int x; }
abbrev pub c4_inherited : List Tree
c4_inherited = (list_of ((trees.Class (at 0 1 7) (codes "A") (trees.NamedType (at 0 1 17) (codes "B")) (list_of ((trees.Field (at 0 1 21) false false (trees.PrimitiveType (at 0 1 21) Int) (list_of ((trees.Declarator (at 0 1 25) (codes "x") Nil) ∷ []))) ∷ []))) ∷ (trees.Class (at 0 1 36) (codes "B") (trees.NamedType (at 0 1 46) (codes "C")) Nil) ∷ (trees.Class (at 0 1 58) (codes "C") Nil (list_of ((trees.Field (at 0 1 62) false false (trees.PrimitiveType (at 0 1 62) Int) (list_of ((trees.Declarator (at 0 1 66) (codes "x") Nil) ∷ []))) ∷ []))) ∷ [])) ∷ []

-- class A extends B { int K; } class B { static final int K = 1; }
abbrev pub c4_constant : List Tree
c4_constant = (list_of ((trees.Class (at 0 1 7) (codes "A") (trees.NamedType (at 0 1 17) (codes "B")) (list_of ((trees.Field (at 0 1 21) false false (trees.PrimitiveType (at 0 1 21) Int) (list_of ((trees.Declarator (at 0 1 25) (codes "K") Nil) ∷ []))) ∷ []))) ∷ (trees.Class (at 0 1 36) (codes "B") Nil (list_of ((trees.Field (at 0 1 53) true true (trees.PrimitiveType (at 0 1 53) Int) (list_of ((trees.Declarator (at 0 1 57) (codes "K") (trees.Number (at 0 1 61) 1)) ∷ []))) ∷ []))) ∷ [])) ∷ []

-- class A { A() { } A(int x) { } }
abbrev pub c4_constructors : List Tree
c4_constructors = (list_of ((trees.Class (at 0 1 7) (codes "A") Nil (list_of ((trees.Constructor (at 0 1 11) Nil Nil Nil) ∷ (trees.Constructor (at 0 1 19) (list_of ((trees.Parameter (at 0 1 25) (trees.PrimitiveType (at 0 1 21) Int) (codes "x")) ∷ [])) Nil Nil) ∷ []))) ∷ [])) ∷ []

-- class A { static final int x = 1; static class B { int x; A y; } } class C { int x; C() { } }
abbrev pub c4_fine : List Tree
c4_fine = (list_of ((trees.Class (at 0 1 7) (codes "A") Nil (list_of ((trees.Field (at 0 1 24) true true (trees.PrimitiveType (at 0 1 24) Int) (list_of ((trees.Declarator (at 0 1 28) (codes "x") (trees.Number (at 0 1 32) 1)) ∷ []))) ∷ (trees.Class (at 0 1 48) (codes "B") Nil (list_of ((trees.Field (at 0 1 52) false false (trees.PrimitiveType (at 0 1 52) Int) (list_of ((trees.Declarator (at 0 1 56) (codes "x") Nil) ∷ []))) ∷ (trees.Field (at 0 1 59) false false (trees.NamedType (at 0 1 59) (codes "A")) (list_of ((trees.Declarator (at 0 1 61) (codes "y") Nil) ∷ []))) ∷ []))) ∷ []))) ∷ (trees.Class (at 0 1 74) (codes "C") Nil (list_of ((trees.Field (at 0 1 78) false false (trees.PrimitiveType (at 0 1 78) Int) (list_of ((trees.Declarator (at 0 1 82) (codes "x") Nil) ∷ []))) ∷ (trees.Constructor (at 0 1 85) Nil Nil Nil) ∷ []))) ∷ [])) ∷ []

-- class A { void m() { } int n() { return 1; } void m(int x) { } }
abbrev pub c5_two : List Tree
c5_two = (list_of ((trees.Class (at 0 1 7) (codes "A") Nil (list_of ((trees.Method (at 0 1 16) false (codes "m") (trees.Signature (at 0 1 16) (trees.PrimitiveType (at 0 1 16) Void) Nil Nil) Nil) ∷ (trees.Method (at 0 1 28) false (codes "n") (trees.Signature (at 0 1 28) (trees.PrimitiveType (at 0 1 24) Int) Nil Nil) (list_of ((trees.Return (at 0 1 34) (trees.Number (at 0 1 41) 1)) ∷ []))) ∷ (trees.Method (at 0 1 51) false (codes "m") (trees.Signature (at 0 1 51) (trees.PrimitiveType (at 0 1 51) Void) (list_of ((trees.Parameter (at 0 1 57) (trees.PrimitiveType (at 0 1 53) Int) (codes "x")) ∷ [])) Nil) Nil) ∷ []))) ∷ [])) ∷ []

-- class A { void m(A x) { } } class B extends A { void m(B x) { } }
abbrev pub c5_inherited : List Tree
c5_inherited = (list_of ((trees.Class (at 0 1 7) (codes "A") Nil (list_of ((trees.Method (at 0 1 16) false (codes "m") (trees.Signature (at 0 1 16) (trees.PrimitiveType (at 0 1 16) Void) (list_of ((trees.Parameter (at 0 1 20) (trees.NamedType (at 0 1 18) (codes "A")) (codes "x")) ∷ [])) Nil) Nil) ∷ []))) ∷ (trees.Class (at 0 1 35) (codes "B") (trees.NamedType (at 0 1 45) (codes "A")) (list_of ((trees.Method (at 0 1 54) false (codes "m") (trees.Signature (at 0 1 54) (trees.PrimitiveType (at 0 1 54) Void) (list_of ((trees.Parameter (at 0 1 58) (trees.NamedType (at 0 1 56) (codes "B")) (codes "x")) ∷ [])) Nil) Nil) ∷ []))) ∷ [])) ∷ []

-- class A { void m() { } } class B extends A { } class C extends B { void m(int x) { } }
abbrev pub c5_number : List Tree
c5_number = (list_of ((trees.Class (at 0 1 7) (codes "A") Nil (list_of ((trees.Method (at 0 1 16) false (codes "m") (trees.Signature (at 0 1 16) (trees.PrimitiveType (at 0 1 16) Void) Nil Nil) Nil) ∷ []))) ∷ (trees.Class (at 0 1 32) (codes "B") (trees.NamedType (at 0 1 42) (codes "A")) Nil) ∷ (trees.Class (at 0 1 54) (codes "C") (trees.NamedType (at 0 1 64) (codes "B")) (list_of ((trees.Method (at 0 1 73) false (codes "m") (trees.Signature (at 0 1 73) (trees.PrimitiveType (at 0 1 73) Void) (list_of ((trees.Parameter (at 0 1 79) (trees.PrimitiveType (at 0 1 75) Int) (codes "x")) ∷ [])) Nil) Nil) ∷ []))) ∷ [])) ∷ []

-- class A { static class B { } void m(A.B x, int y) { } } class C extends A { void m(B z, int y) { } }
abbrev pub c5_fine : List Tree
c5_fine = (list_of ((trees.Class (at 0 1 7) (codes "A") Nil (list_of ((trees.Class (at 0 1 24) (codes "B") Nil Nil) ∷ (trees.Method (at 0 1 35) false (codes "m") (trees.Signature (at 0 1 35) (trees.PrimitiveType (at 0 1 35) Void) (list_of ((trees.Parameter (at 0 1 41) (trees.QualifiedType (at 0 1 37) (codes "A") (codes "B")) (codes "x")) ∷ (trees.Parameter (at 0 1 48) (trees.PrimitiveType (at 0 1 44) Int) (codes "y")) ∷ [])) Nil) Nil) ∷ []))) ∷ (trees.Class (at 0 1 63) (codes "C") (trees.NamedType (at 0 1 73) (codes "A")) (list_of ((trees.Method (at 0 1 82) false (codes "m") (trees.Signature (at 0 1 82) (trees.PrimitiveType (at 0 1 82) Void) (list_of ((trees.Parameter (at 0 1 86) (trees.NamedType (at 0 1 84) (codes "B")) (codes "z")) ∷ (trees.Parameter (at 0 1 93) (trees.PrimitiveType (at 0 1 89) Int) (codes "y")) ∷ [])) Nil) Nil) ∷ []))) ∷ [])) ∷ []

-- class A { boolean equals(A a) { return true; } }
abbrev pub c6_object : List Tree
c6_object = (list_of ((trees.Class (at 0 1 7) (codes "A") Nil (list_of ((trees.Method (at 0 1 19) false (codes "equals") (trees.Signature (at 0 1 19) (trees.PrimitiveType (at 0 1 11) Boolean) (list_of ((trees.Parameter (at 0 1 28) (trees.NamedType (at 0 1 26) (codes "A")) (codes "a")) ∷ [])) Nil) (list_of ((trees.Return (at 0 1 33) (trees.Truth (at 0 1 40) true)) ∷ []))) ∷ []))) ∷ [])) ∷ []

-- class A { boolean equal(A a) { return true; } }
abbrev pub c6_fine : List Tree
c6_fine = (list_of ((trees.Class (at 0 1 7) (codes "A") Nil (list_of ((trees.Method (at 0 1 19) false (codes "equal") (trees.Signature (at 0 1 19) (trees.PrimitiveType (at 0 1 11) Boolean) (list_of ((trees.Parameter (at 0 1 27) (trees.NamedType (at 0 1 25) (codes "A")) (codes "a")) ∷ [])) Nil) (list_of ((trees.Return (at 0 1 32) (trees.Truth (at 0 1 39) true)) ∷ []))) ∷ []))) ∷ [])) ∷ []

-- class A { static void m() { } } class B extends A { void m() { } }
abbrev pub c7_static : List Tree
c7_static = (list_of ((trees.Class (at 0 1 7) (codes "A") Nil (list_of ((trees.Method (at 0 1 23) true (codes "m") (trees.Signature (at 0 1 23) (trees.PrimitiveType (at 0 1 23) Void) Nil Nil) Nil) ∷ []))) ∷ (trees.Class (at 0 1 39) (codes "B") (trees.NamedType (at 0 1 49) (codes "A")) (list_of ((trees.Method (at 0 1 58) false (codes "m") (trees.Signature (at 0 1 58) (trees.PrimitiveType (at 0 1 58) Void) Nil Nil) Nil) ∷ []))) ∷ [])) ∷ []

-- class A { int m() { return 1; } } class B extends A { boolean m() { return true; } }
abbrev pub c7_result : List Tree
c7_result = (list_of ((trees.Class (at 0 1 7) (codes "A") Nil (list_of ((trees.Method (at 0 1 15) false (codes "m") (trees.Signature (at 0 1 15) (trees.PrimitiveType (at 0 1 11) Int) Nil Nil) (list_of ((trees.Return (at 0 1 21) (trees.Number (at 0 1 28) 1)) ∷ []))) ∷ []))) ∷ (trees.Class (at 0 1 41) (codes "B") (trees.NamedType (at 0 1 51) (codes "A")) (list_of ((trees.Method (at 0 1 63) false (codes "m") (trees.Signature (at 0 1 63) (trees.PrimitiveType (at 0 1 55) Boolean) Nil Nil) (list_of ((trees.Return (at 0 1 69) (trees.Truth (at 0 1 76) true)) ∷ []))) ∷ []))) ∷ [])) ∷ []

-- class A { B m() { return null; } } class B extends A { A m() { return null; } }
abbrev pub c7_above : List Tree
c7_above = (list_of ((trees.Class (at 0 1 7) (codes "A") Nil (list_of ((trees.Method (at 0 1 13) false (codes "m") (trees.Signature (at 0 1 13) (trees.NamedType (at 0 1 11) (codes "B")) Nil Nil) (list_of ((trees.Return (at 0 1 19) (trees.Null (at 0 1 26))) ∷ []))) ∷ []))) ∷ (trees.Class (at 0 1 42) (codes "B") (trees.NamedType (at 0 1 52) (codes "A")) (list_of ((trees.Method (at 0 1 58) false (codes "m") (trees.Signature (at 0 1 58) (trees.NamedType (at 0 1 56) (codes "A")) Nil Nil) (list_of ((trees.Return (at 0 1 64) (trees.Null (at 0 1 71))) ∷ []))) ∷ []))) ∷ [])) ∷ []

-- class A { A m() { return null; } static int n() { return 1; } } class B extends A { B m() { return null; } static int n() { return 2; } }
abbrev pub c7_fine : List Tree
c7_fine = (list_of ((trees.Class (at 0 1 7) (codes "A") Nil (list_of ((trees.Method (at 0 1 13) false (codes "m") (trees.Signature (at 0 1 13) (trees.NamedType (at 0 1 11) (codes "A")) Nil Nil) (list_of ((trees.Return (at 0 1 19) (trees.Null (at 0 1 26))) ∷ []))) ∷ (trees.Method (at 0 1 45) true (codes "n") (trees.Signature (at 0 1 45) (trees.PrimitiveType (at 0 1 41) Int) Nil Nil) (list_of ((trees.Return (at 0 1 51) (trees.Number (at 0 1 58) 1)) ∷ []))) ∷ []))) ∷ (trees.Class (at 0 1 71) (codes "B") (trees.NamedType (at 0 1 81) (codes "A")) (list_of ((trees.Method (at 0 1 87) false (codes "m") (trees.Signature (at 0 1 87) (trees.NamedType (at 0 1 85) (codes "B")) Nil Nil) (list_of ((trees.Return (at 0 1 93) (trees.Null (at 0 1 100))) ∷ []))) ∷ (trees.Method (at 0 1 119) true (codes "n") (trees.Signature (at 0 1 119) (trees.PrimitiveType (at 0 1 115) Int) Nil Nil) (list_of ((trees.Return (at 0 1 125) (trees.Number (at 0 1 132) 2)) ∷ []))) ∷ []))) ∷ [])) ∷ []

-- class A { int a1, a2, a3, a4, a5, a6, a7, a8, a9, a10, a11, a12, a13, a14, a15, a16, a17, a18, a19, a20, a21, a22, a23, a24, a25, a26, a27, a28, a29, a30, a31; static final int K = 1; } class B extends A { int b1; static final int L = 1; int b2, b3; }
abbrev pub c8_fields : List Tree
c8_fields = (list_of ((trees.Class (at 0 1 7) (codes "A") Nil (list_of ((trees.Field (at 0 1 11) false false (trees.PrimitiveType (at 0 1 11) Int) (list_of ((trees.Declarator (at 0 1 15) (codes "a1") Nil) ∷ (trees.Declarator (at 0 1 19) (codes "a2") Nil) ∷ (trees.Declarator (at 0 1 23) (codes "a3") Nil) ∷ (trees.Declarator (at 0 1 27) (codes "a4") Nil) ∷ (trees.Declarator (at 0 1 31) (codes "a5") Nil) ∷ (trees.Declarator (at 0 1 35) (codes "a6") Nil) ∷ (trees.Declarator (at 0 1 39) (codes "a7") Nil) ∷ (trees.Declarator (at 0 1 43) (codes "a8") Nil) ∷ (trees.Declarator (at 0 1 47) (codes "a9") Nil) ∷ (trees.Declarator (at 0 1 51) (codes "a10") Nil) ∷ (trees.Declarator (at 0 1 56) (codes "a11") Nil) ∷ (trees.Declarator (at 0 1 61) (codes "a12") Nil) ∷ (trees.Declarator (at 0 1 66) (codes "a13") Nil) ∷ (trees.Declarator (at 0 1 71) (codes "a14") Nil) ∷ (trees.Declarator (at 0 1 76) (codes "a15") Nil) ∷ (trees.Declarator (at 0 1 81) (codes "a16") Nil) ∷ (trees.Declarator (at 0 1 86) (codes "a17") Nil) ∷ (trees.Declarator (at 0 1 91) (codes "a18") Nil) ∷ (trees.Declarator (at 0 1 96) (codes "a19") Nil) ∷ (trees.Declarator (at 0 1 101) (codes "a20") Nil) ∷ (trees.Declarator (at 0 1 106) (codes "a21") Nil) ∷ (trees.Declarator (at 0 1 111) (codes "a22") Nil) ∷ (trees.Declarator (at 0 1 116) (codes "a23") Nil) ∷ (trees.Declarator (at 0 1 121) (codes "a24") Nil) ∷ (trees.Declarator (at 0 1 126) (codes "a25") Nil) ∷ (trees.Declarator (at 0 1 131) (codes "a26") Nil) ∷ (trees.Declarator (at 0 1 136) (codes "a27") Nil) ∷ (trees.Declarator (at 0 1 141) (codes "a28") Nil) ∷ (trees.Declarator (at 0 1 146) (codes "a29") Nil) ∷ (trees.Declarator (at 0 1 151) (codes "a30") Nil) ∷ (trees.Declarator (at 0 1 156) (codes "a31") Nil) ∷ []))) ∷ (trees.Field (at 0 1 174) true true (trees.PrimitiveType (at 0 1 174) Int) (list_of ((trees.Declarator (at 0 1 178) (codes "K") (trees.Number (at 0 1 182) 1)) ∷ []))) ∷ []))) ∷ (trees.Class (at 0 1 193) (codes "B") (trees.NamedType (at 0 1 203) (codes "A")) (list_of ((trees.Field (at 0 1 207) false false (trees.PrimitiveType (at 0 1 207) Int) (list_of ((trees.Declarator (at 0 1 211) (codes "b1") Nil) ∷ []))) ∷ (trees.Field (at 0 1 228) true true (trees.PrimitiveType (at 0 1 228) Int) (list_of ((trees.Declarator (at 0 1 232) (codes "L") (trees.Number (at 0 1 236) 1)) ∷ []))) ∷ (trees.Field (at 0 1 239) false false (trees.PrimitiveType (at 0 1 239) Int) (list_of ((trees.Declarator (at 0 1 243) (codes "b2") Nil) ∷ (trees.Declarator (at 0 1 247) (codes "b3") Nil) ∷ []))) ∷ []))) ∷ [])) ∷ []

-- class A { int a1, a2, a3, a4, a5, a6, a7, a8, a9, a10, a11, a12, a13, a14, a15, a16, a17, a18, a19, a20, a21, a22, a23, a24, a25, a26, a27, a28, a29, a30, a31; static final int K = 1; } class B extends A { int b1; }
abbrev pub c8_fine : List Tree
c8_fine = (list_of ((trees.Class (at 0 1 7) (codes "A") Nil (list_of ((trees.Field (at 0 1 11) false false (trees.PrimitiveType (at 0 1 11) Int) (list_of ((trees.Declarator (at 0 1 15) (codes "a1") Nil) ∷ (trees.Declarator (at 0 1 19) (codes "a2") Nil) ∷ (trees.Declarator (at 0 1 23) (codes "a3") Nil) ∷ (trees.Declarator (at 0 1 27) (codes "a4") Nil) ∷ (trees.Declarator (at 0 1 31) (codes "a5") Nil) ∷ (trees.Declarator (at 0 1 35) (codes "a6") Nil) ∷ (trees.Declarator (at 0 1 39) (codes "a7") Nil) ∷ (trees.Declarator (at 0 1 43) (codes "a8") Nil) ∷ (trees.Declarator (at 0 1 47) (codes "a9") Nil) ∷ (trees.Declarator (at 0 1 51) (codes "a10") Nil) ∷ (trees.Declarator (at 0 1 56) (codes "a11") Nil) ∷ (trees.Declarator (at 0 1 61) (codes "a12") Nil) ∷ (trees.Declarator (at 0 1 66) (codes "a13") Nil) ∷ (trees.Declarator (at 0 1 71) (codes "a14") Nil) ∷ (trees.Declarator (at 0 1 76) (codes "a15") Nil) ∷ (trees.Declarator (at 0 1 81) (codes "a16") Nil) ∷ (trees.Declarator (at 0 1 86) (codes "a17") Nil) ∷ (trees.Declarator (at 0 1 91) (codes "a18") Nil) ∷ (trees.Declarator (at 0 1 96) (codes "a19") Nil) ∷ (trees.Declarator (at 0 1 101) (codes "a20") Nil) ∷ (trees.Declarator (at 0 1 106) (codes "a21") Nil) ∷ (trees.Declarator (at 0 1 111) (codes "a22") Nil) ∷ (trees.Declarator (at 0 1 116) (codes "a23") Nil) ∷ (trees.Declarator (at 0 1 121) (codes "a24") Nil) ∷ (trees.Declarator (at 0 1 126) (codes "a25") Nil) ∷ (trees.Declarator (at 0 1 131) (codes "a26") Nil) ∷ (trees.Declarator (at 0 1 136) (codes "a27") Nil) ∷ (trees.Declarator (at 0 1 141) (codes "a28") Nil) ∷ (trees.Declarator (at 0 1 146) (codes "a29") Nil) ∷ (trees.Declarator (at 0 1 151) (codes "a30") Nil) ∷ (trees.Declarator (at 0 1 156) (codes "a31") Nil) ∷ []))) ∷ (trees.Field (at 0 1 174) true true (trees.PrimitiveType (at 0 1 174) Int) (list_of ((trees.Declarator (at 0 1 178) (codes "K") (trees.Number (at 0 1 182) 1)) ∷ []))) ∷ []))) ∷ (trees.Class (at 0 1 193) (codes "B") (trees.NamedType (at 0 1 203) (codes "A")) (list_of ((trees.Field (at 0 1 207) false false (trees.PrimitiveType (at 0 1 207) Int) (list_of ((trees.Declarator (at 0 1 211) (codes "b1") Nil) ∷ []))) ∷ []))) ∷ [])) ∷ []

-- class A { int x; int x; } class B extends C { } class D extends E { }
abbrev pub c_order : List Tree
c_order = (list_of ((trees.Class (at 0 1 7) (codes "A") Nil (list_of ((trees.Field (at 0 1 11) false false (trees.PrimitiveType (at 0 1 11) Int) (list_of ((trees.Declarator (at 0 1 15) (codes "x") Nil) ∷ []))) ∷ (trees.Field (at 0 1 18) false false (trees.PrimitiveType (at 0 1 18) Int) (list_of ((trees.Declarator (at 0 1 22) (codes "x") Nil) ∷ []))) ∷ []))) ∷ (trees.Class (at 0 1 33) (codes "B") (trees.NamedType (at 0 1 43) (codes "C")) Nil) ∷ (trees.Class (at 0 1 55) (codes "D") (trees.NamedType (at 0 1 65) (codes "E")) Nil) ∷ [])) ∷ []

-- class A { B x; }
abbrev pub t1_unknown : List Tree
t1_unknown = (list_of ((trees.Class (at 0 1 7) (codes "A") Nil (list_of ((trees.Field (at 0 1 11) false false (trees.NamedType (at 0 1 11) (codes "B")) (list_of ((trees.Declarator (at 0 1 13) (codes "x") Nil) ∷ []))) ∷ []))) ∷ [])) ∷ []

-- class A { HashSet<int> x; }
abbrev pub t1_argument : List Tree
t1_argument = (list_of ((trees.Class (at 0 1 7) (codes "A") Nil (list_of ((trees.Field (at 0 1 11) false false (trees.GenericType (at 0 1 11) (trees.NamedType (at 0 1 11) (codes "HashSet")) (trees.PrimitiveType (at 0 1 19) Int)) (list_of ((trees.Declarator (at 0 1 24) (codes "x") Nil) ∷ []))) ∷ []))) ∷ [])) ∷ []

-- class A { HashSet x; }
abbrev pub t1_raw : List Tree
t1_raw = (list_of ((trees.Class (at 0 1 7) (codes "A") Nil (list_of ((trees.Field (at 0 1 11) false false (trees.NamedType (at 0 1 11) (codes "HashSet")) (list_of ((trees.Declarator (at 0 1 19) (codes "x") Nil) ∷ []))) ∷ []))) ∷ [])) ∷ []

-- class A { A<A> x; }
abbrev pub t1_class : List Tree
t1_class = (list_of ((trees.Class (at 0 1 7) (codes "A") Nil (list_of ((trees.Field (at 0 1 11) false false (trees.GenericType (at 0 1 11) (trees.NamedType (at 0 1 11) (codes "A")) (trees.NamedType (at 0 1 13) (codes "A"))) (list_of ((trees.Declarator (at 0 1 16) (codes "x") Nil) ∷ []))) ∷ []))) ∷ [])) ∷ []

-- class A { void m() { LinkedList<HashSet<B>[]> x; } }
abbrev pub t1_deep : List Tree
t1_deep = (list_of ((trees.Class (at 0 1 7) (codes "A") Nil (list_of ((trees.Method (at 0 1 16) false (codes "m") (trees.Signature (at 0 1 16) (trees.PrimitiveType (at 0 1 16) Void) Nil Nil) (list_of ((trees.Local (at 0 1 22) (trees.GenericType (at 0 1 22) (trees.NamedType (at 0 1 22) (codes "LinkedList")) (trees.ArrayType (at 0 1 33) (trees.GenericType (at 0 1 33) (trees.NamedType (at 0 1 33) (codes "HashSet")) (trees.NamedType (at 0 1 41) (codes "B"))))) (list_of ((trees.Declarator (at 0 1 47) (codes "x") Nil) ∷ []))) ∷ []))) ∷ []))) ∷ [])) ∷ []

-- class A { void m() { new B(); } }
abbrev pub t1_new : List Tree
t1_new = (list_of ((trees.Class (at 0 1 7) (codes "A") Nil (list_of ((trees.Method (at 0 1 16) false (codes "m") (trees.Signature (at 0 1 16) (trees.PrimitiveType (at 0 1 16) Void) Nil Nil) (list_of ((trees.ExpressionStatement (at 0 1 22) (trees.ObjectCreation (at 0 1 22) (trees.NamedType (at 0 1 26) (codes "B")) Nil)) ∷ []))) ∷ []))) ∷ [])) ∷ []

-- class A { void m() { new HashSet(); } }
abbrev pub t1_new_raw : List Tree
t1_new_raw = (list_of ((trees.Class (at 0 1 7) (codes "A") Nil (list_of ((trees.Method (at 0 1 16) false (codes "m") (trees.Signature (at 0 1 16) (trees.PrimitiveType (at 0 1 16) Void) Nil Nil) (list_of ((trees.ExpressionStatement (at 0 1 22) (trees.ObjectCreation (at 0 1 22) (trees.NamedType (at 0 1 26) (codes "HashSet")) Nil)) ∷ []))) ∷ []))) ∷ [])) ∷ []

-- class A { static class B { } A.B x; B.A y; }
abbrev pub t1_qualified : List Tree
t1_qualified = (list_of ((trees.Class (at 0 1 7) (codes "A") Nil (list_of ((trees.Class (at 0 1 24) (codes "B") Nil Nil) ∷ (trees.Field (at 0 1 30) false false (trees.QualifiedType (at 0 1 30) (codes "A") (codes "B")) (list_of ((trees.Declarator (at 0 1 34) (codes "x") Nil) ∷ []))) ∷ (trees.Field (at 0 1 37) false false (trees.QualifiedType (at 0 1 37) (codes "B") (codes "A")) (list_of ((trees.Declarator (at 0 1 41) (codes "y") Nil) ∷ []))) ∷ []))) ∷ [])) ∷ []

-- class A { static class B { } B x; A.B y; HashSet<A> z; LinkedList<int[]>[] w; A[][] v; }
abbrev pub t1_fine : List Tree
t1_fine = (list_of ((trees.Class (at 0 1 7) (codes "A") Nil (list_of ((trees.Class (at 0 1 24) (codes "B") Nil Nil) ∷ (trees.Field (at 0 1 30) false false (trees.NamedType (at 0 1 30) (codes "B")) (list_of ((trees.Declarator (at 0 1 32) (codes "x") Nil) ∷ []))) ∷ (trees.Field (at 0 1 35) false false (trees.QualifiedType (at 0 1 35) (codes "A") (codes "B")) (list_of ((trees.Declarator (at 0 1 39) (codes "y") Nil) ∷ []))) ∷ (trees.Field (at 0 1 42) false false (trees.GenericType (at 0 1 42) (trees.NamedType (at 0 1 42) (codes "HashSet")) (trees.NamedType (at 0 1 50) (codes "A"))) (list_of ((trees.Declarator (at 0 1 53) (codes "z") Nil) ∷ []))) ∷ (trees.Field (at 0 1 56) false false (trees.ArrayType (at 0 1 56) (trees.GenericType (at 0 1 56) (trees.NamedType (at 0 1 56) (codes "LinkedList")) (trees.ArrayType (at 0 1 67) (trees.PrimitiveType (at 0 1 67) Int)))) (list_of ((trees.Declarator (at 0 1 76) (codes "w") Nil) ∷ []))) ∷ (trees.Field (at 0 1 79) false false (trees.ArrayType (at 0 1 79) (trees.ArrayType (at 0 1 79) (trees.NamedType (at 0 1 79) (codes "A")))) (list_of ((trees.Declarator (at 0 1 85) (codes "v") Nil) ∷ []))) ∷ []))) ∷ [])) ∷ []

-- class A { int m() { return n(y); } int n(int x) { return x; } B y; }
abbrev pub t1_untyped : List Tree
t1_untyped = (list_of ((trees.Class (at 0 1 7) (codes "A") Nil (list_of ((trees.Method (at 0 1 15) false (codes "m") (trees.Signature (at 0 1 15) (trees.PrimitiveType (at 0 1 11) Int) Nil Nil) (list_of ((trees.Return (at 0 1 21) (trees.Call (at 0 1 28) (codes "n") (list_of ((trees.Variable (at 0 1 30) (codes "y")) ∷ [])))) ∷ []))) ∷ (trees.Method (at 0 1 40) false (codes "n") (trees.Signature (at 0 1 40) (trees.PrimitiveType (at 0 1 36) Int) (list_of ((trees.Parameter (at 0 1 46) (trees.PrimitiveType (at 0 1 42) Int) (codes "x")) ∷ [])) Nil) (list_of ((trees.Return (at 0 1 51) (trees.Variable (at 0 1 58) (codes "x"))) ∷ []))) ∷ (trees.Field (at 0 1 63) false false (trees.NamedType (at 0 1 63) (codes "B")) (list_of ((trees.Declarator (at 0 1 65) (codes "y") Nil) ∷ []))) ∷ []))) ∷ [])) ∷ []

-- class A { int m() { return x; } }
abbrev pub t3_name : List Tree
t3_name = (list_of ((trees.Class (at 0 1 7) (codes "A") Nil (list_of ((trees.Method (at 0 1 15) false (codes "m") (trees.Signature (at 0 1 15) (trees.PrimitiveType (at 0 1 11) Int) Nil Nil) (list_of ((trees.Return (at 0 1 21) (trees.Variable (at 0 1 28) (codes "x"))) ∷ []))) ∷ []))) ∷ [])) ∷ []

-- class A { int m() { return A; } }
abbrev pub t3_class : List Tree
t3_class = (list_of ((trees.Class (at 0 1 7) (codes "A") Nil (list_of ((trees.Method (at 0 1 15) false (codes "m") (trees.Signature (at 0 1 15) (trees.PrimitiveType (at 0 1 11) Int) Nil Nil) (list_of ((trees.Return (at 0 1 21) (trees.Variable (at 0 1 28) (codes "A"))) ∷ []))) ∷ []))) ∷ [])) ∷ []

-- class A { void m() { { int x = 1; } x = 2; } }
abbrev pub t3_ended : List Tree
t3_ended = (list_of ((trees.Class (at 0 1 7) (codes "A") Nil (list_of ((trees.Method (at 0 1 16) false (codes "m") (trees.Signature (at 0 1 16) (trees.PrimitiveType (at 0 1 16) Void) Nil Nil) (list_of ((trees.Block (at 0 1 22) (list_of ((trees.Local (at 0 1 24) (trees.PrimitiveType (at 0 1 24) Int) (list_of ((trees.Declarator (at 0 1 28) (codes "x") (trees.Number (at 0 1 32) 1)) ∷ []))) ∷ []))) ∷ (trees.ExpressionStatement (at 0 1 37) (trees.Assignment (at 0 1 37) (trees.Variable (at 0 1 37) (codes "x")) (trees.Number (at 0 1 41) 2))) ∷ []))) ∷ []))) ∷ [])) ∷ []

-- class A { void m() { int x = x + 1; } }
abbrev pub t3_own : List Tree
t3_own = (list_of ((trees.Class (at 0 1 7) (codes "A") Nil (list_of ((trees.Method (at 0 1 16) false (codes "m") (trees.Signature (at 0 1 16) (trees.PrimitiveType (at 0 1 16) Void) Nil Nil) (list_of ((trees.Local (at 0 1 22) (trees.PrimitiveType (at 0 1 22) Int) (list_of ((trees.Declarator (at 0 1 26) (codes "x") (trees.Binary (at 0 1 30) Add (trees.Variable (at 0 1 30) (codes "x")) (trees.Number (at 0 1 34) 1))) ∷ []))) ∷ []))) ∷ []))) ∷ [])) ∷ []

-- class A { int v; static final int K = 1; static class B { int m() { return K + v; } } }
abbrev pub t3_outer : List Tree
t3_outer = (list_of ((trees.Class (at 0 1 7) (codes "A") Nil (list_of ((trees.Field (at 0 1 11) false false (trees.PrimitiveType (at 0 1 11) Int) (list_of ((trees.Declarator (at 0 1 15) (codes "v") Nil) ∷ []))) ∷ (trees.Field (at 0 1 31) true true (trees.PrimitiveType (at 0 1 31) Int) (list_of ((trees.Declarator (at 0 1 35) (codes "K") (trees.Number (at 0 1 39) 1)) ∷ []))) ∷ (trees.Class (at 0 1 55) (codes "B") Nil (list_of ((trees.Method (at 0 1 63) false (codes "m") (trees.Signature (at 0 1 63) (trees.PrimitiveType (at 0 1 59) Int) Nil Nil) (list_of ((trees.Return (at 0 1 69) (trees.Binary (at 0 1 76) Add (trees.Variable (at 0 1 76) (codes "K")) (trees.Variable (at 0 1 80) (codes "v")))) ∷ []))) ∷ []))) ∷ []))) ∷ [])) ∷ []

-- class A { static final int K = 1; static class B extends C { int m() { return K + v + A.K; } } } class C { int v; }
abbrev pub t3_fine : List Tree
t3_fine = (list_of ((trees.Class (at 0 1 7) (codes "A") Nil (list_of ((trees.Field (at 0 1 24) true true (trees.PrimitiveType (at 0 1 24) Int) (list_of ((trees.Declarator (at 0 1 28) (codes "K") (trees.Number (at 0 1 32) 1)) ∷ []))) ∷ (trees.Class (at 0 1 48) (codes "B") (trees.NamedType (at 0 1 58) (codes "C")) (list_of ((trees.Method (at 0 1 66) false (codes "m") (trees.Signature (at 0 1 66) (trees.PrimitiveType (at 0 1 62) Int) Nil Nil) (list_of ((trees.Return (at 0 1 72) (trees.Binary (at 0 1 79) Add (trees.Binary (at 0 1 79) Add (trees.Variable (at 0 1 79) (codes "K")) (trees.Variable (at 0 1 83) (codes "v"))) (trees.FieldAccess (at 0 1 87) (trees.Variable (at 0 1 87) (codes "A")) (codes "K")))) ∷ []))) ∷ []))) ∷ []))) ∷ (trees.Class (at 0 1 104) (codes "C") Nil (list_of ((trees.Field (at 0 1 108) false false (trees.PrimitiveType (at 0 1 108) Int) (list_of ((trees.Declarator (at 0 1 112) (codes "v") Nil) ∷ []))) ∷ []))) ∷ [])) ∷ []

-- class A { void m() { int x; int x; } }
abbrev pub t4_two : List Tree
t4_two = (list_of ((trees.Class (at 0 1 7) (codes "A") Nil (list_of ((trees.Method (at 0 1 16) false (codes "m") (trees.Signature (at 0 1 16) (trees.PrimitiveType (at 0 1 16) Void) Nil Nil) (list_of ((trees.Local (at 0 1 22) (trees.PrimitiveType (at 0 1 22) Int) (list_of ((trees.Declarator (at 0 1 26) (codes "x") Nil) ∷ []))) ∷ (trees.Local (at 0 1 29) (trees.PrimitiveType (at 0 1 29) Int) (list_of ((trees.Declarator (at 0 1 33) (codes "x") Nil) ∷ []))) ∷ []))) ∷ []))) ∷ [])) ∷ []

-- class A { void m(int x) { if (x == 1) { boolean x; } } }
abbrev pub t4_inner : List Tree
t4_inner = (list_of ((trees.Class (at 0 1 7) (codes "A") Nil (list_of ((trees.Method (at 0 1 16) false (codes "m") (trees.Signature (at 0 1 16) (trees.PrimitiveType (at 0 1 16) Void) (list_of ((trees.Parameter (at 0 1 22) (trees.PrimitiveType (at 0 1 18) Int) (codes "x")) ∷ [])) Nil) (list_of ((trees.IfThen (at 0 1 27) (trees.Binary (at 0 1 31) Equal (trees.Variable (at 0 1 31) (codes "x")) (trees.Number (at 0 1 36) 1)) (trees.Block (at 0 1 39) (list_of ((trees.Local (at 0 1 41) (trees.PrimitiveType (at 0 1 41) Boolean) (list_of ((trees.Declarator (at 0 1 49) (codes "x") Nil) ∷ []))) ∷ [])))) ∷ []))) ∷ []))) ∷ [])) ∷ []

-- class A { void m(int x, int x) { } }
abbrev pub t4_parameters : List Tree
t4_parameters = (list_of ((trees.Class (at 0 1 7) (codes "A") Nil (list_of ((trees.Method (at 0 1 16) false (codes "m") (trees.Signature (at 0 1 16) (trees.PrimitiveType (at 0 1 16) Void) (list_of ((trees.Parameter (at 0 1 22) (trees.PrimitiveType (at 0 1 18) Int) (codes "x")) ∷ (trees.Parameter (at 0 1 29) (trees.PrimitiveType (at 0 1 25) Int) (codes "x")) ∷ [])) Nil) Nil) ∷ []))) ∷ [])) ∷ []

-- class A { void m() { int i = 1; for (int i = 0; i < 1; i++) ; } }
abbrev pub t4_for : List Tree
t4_for = (list_of ((trees.Class (at 0 1 7) (codes "A") Nil (list_of ((trees.Method (at 0 1 16) false (codes "m") (trees.Signature (at 0 1 16) (trees.PrimitiveType (at 0 1 16) Void) Nil Nil) (list_of ((trees.Local (at 0 1 22) (trees.PrimitiveType (at 0 1 22) Int) (list_of ((trees.Declarator (at 0 1 26) (codes "i") (trees.Number (at 0 1 30) 1)) ∷ []))) ∷ (trees.For (at 0 1 33) (list_of ((trees.Local (at 0 1 38) (trees.PrimitiveType (at 0 1 38) Int) (list_of ((trees.Declarator (at 0 1 42) (codes "i") (trees.Number (at 0 1 46) 0)) ∷ []))) ∷ [])) (trees.Binary (at 0 1 49) Less (trees.Variable (at 0 1 49) (codes "i")) (trees.Number (at 0 1 53) 1)) (list_of ((trees.Step (at 0 1 56) IncrementBehind (trees.Variable (at 0 1 56) (codes "i"))) ∷ [])) (trees.Empty (at 0 1 61))) ∷ []))) ∷ []))) ∷ [])) ∷ []

-- class A { int x; void m(int x) { { int y; } { int y; } for (int z = 0; ; ) { break; } int z; } }
abbrev pub t4_fine : List Tree
t4_fine = (list_of ((trees.Class (at 0 1 7) (codes "A") Nil (list_of ((trees.Field (at 0 1 11) false false (trees.PrimitiveType (at 0 1 11) Int) (list_of ((trees.Declarator (at 0 1 15) (codes "x") Nil) ∷ []))) ∷ (trees.Method (at 0 1 23) false (codes "m") (trees.Signature (at 0 1 23) (trees.PrimitiveType (at 0 1 23) Void) (list_of ((trees.Parameter (at 0 1 29) (trees.PrimitiveType (at 0 1 25) Int) (codes "x")) ∷ [])) Nil) (list_of ((trees.Block (at 0 1 34) (list_of ((trees.Local (at 0 1 36) (trees.PrimitiveType (at 0 1 36) Int) (list_of ((trees.Declarator (at 0 1 40) (codes "y") Nil) ∷ []))) ∷ []))) ∷ (trees.Block (at 0 1 45) (list_of ((trees.Local (at 0 1 47) (trees.PrimitiveType (at 0 1 47) Int) (list_of ((trees.Declarator (at 0 1 51) (codes "y") Nil) ∷ []))) ∷ []))) ∷ (trees.For (at 0 1 56) (list_of ((trees.Local (at 0 1 61) (trees.PrimitiveType (at 0 1 61) Int) (list_of ((trees.Declarator (at 0 1 65) (codes "z") (trees.Number (at 0 1 69) 0)) ∷ []))) ∷ [])) Nil Nil (trees.Block (at 0 1 76) (list_of ((trees.Break (at 0 1 78)) ∷ [])))) ∷ (trees.Local (at 0 1 87) (trees.PrimitiveType (at 0 1 87) Int) (list_of ((trees.Declarator (at 0 1 91) (codes "z") Nil) ∷ []))) ∷ []))) ∷ []))) ∷ [])) ∷ []

-- class A { static A m() { return this; } }
abbrev pub t5_this : List Tree
t5_this = (list_of ((trees.Class (at 0 1 7) (codes "A") Nil (list_of ((trees.Method (at 0 1 20) true (codes "m") (trees.Signature (at 0 1 20) (trees.NamedType (at 0 1 18) (codes "A")) Nil Nil) (list_of ((trees.Return (at 0 1 26) (trees.This (at 0 1 33))) ∷ []))) ∷ []))) ∷ [])) ∷ []

-- class A { int v; static int m() { return v; } }
abbrev pub t5_field : List Tree
t5_field = (list_of ((trees.Class (at 0 1 7) (codes "A") Nil (list_of ((trees.Field (at 0 1 11) false false (trees.PrimitiveType (at 0 1 11) Int) (list_of ((trees.Declarator (at 0 1 15) (codes "v") Nil) ∷ []))) ∷ (trees.Method (at 0 1 29) true (codes "m") (trees.Signature (at 0 1 29) (trees.PrimitiveType (at 0 1 25) Int) Nil Nil) (list_of ((trees.Return (at 0 1 35) (trees.Variable (at 0 1 42) (codes "v"))) ∷ []))) ∷ []))) ∷ [])) ∷ []

-- class A { int m() { return 1; } static int n() { return m(); } }
abbrev pub t5_method : List Tree
t5_method = (list_of ((trees.Class (at 0 1 7) (codes "A") Nil (list_of ((trees.Method (at 0 1 15) false (codes "m") (trees.Signature (at 0 1 15) (trees.PrimitiveType (at 0 1 11) Int) Nil Nil) (list_of ((trees.Return (at 0 1 21) (trees.Number (at 0 1 28) 1)) ∷ []))) ∷ (trees.Method (at 0 1 44) true (codes "n") (trees.Signature (at 0 1 44) (trees.PrimitiveType (at 0 1 40) Int) Nil Nil) (list_of ((trees.Return (at 0 1 50) (trees.Call (at 0 1 57) (codes "m") Nil)) ∷ []))) ∷ []))) ∷ [])) ∷ []

-- class A { int m() { return 1; } } class B extends A { static int n() { return super.m(); } }
abbrev pub t5_super : List Tree
t5_super = (list_of ((trees.Class (at 0 1 7) (codes "A") Nil (list_of ((trees.Method (at 0 1 15) false (codes "m") (trees.Signature (at 0 1 15) (trees.PrimitiveType (at 0 1 11) Int) Nil Nil) (list_of ((trees.Return (at 0 1 21) (trees.Number (at 0 1 28) 1)) ∷ []))) ∷ []))) ∷ (trees.Class (at 0 1 41) (codes "B") (trees.NamedType (at 0 1 51) (codes "A")) (list_of ((trees.Method (at 0 1 66) true (codes "n") (trees.Signature (at 0 1 66) (trees.PrimitiveType (at 0 1 62) Int) Nil Nil) (list_of ((trees.Return (at 0 1 72) (trees.SuperCall (at 0 1 79) (codes "m") Nil)) ∷ []))) ∷ []))) ∷ [])) ∷ []

-- class A { int v; static final int K = v; }
abbrev pub t5_constant : List Tree
t5_constant = (list_of ((trees.Class (at 0 1 7) (codes "A") Nil (list_of ((trees.Field (at 0 1 11) false false (trees.PrimitiveType (at 0 1 11) Int) (list_of ((trees.Declarator (at 0 1 15) (codes "v") Nil) ∷ []))) ∷ (trees.Field (at 0 1 31) true true (trees.PrimitiveType (at 0 1 31) Int) (list_of ((trees.Declarator (at 0 1 35) (codes "K") (trees.Variable (at 0 1 39) (codes "v"))) ∷ []))) ∷ []))) ∷ [])) ∷ []

-- class A { static final int K = 1; static int m(A a) { return a.n() + K + m(a); } int n() { return m(this); } }
abbrev pub t5_fine : List Tree
t5_fine = (list_of ((trees.Class (at 0 1 7) (codes "A") Nil (list_of ((trees.Field (at 0 1 24) true true (trees.PrimitiveType (at 0 1 24) Int) (list_of ((trees.Declarator (at 0 1 28) (codes "K") (trees.Number (at 0 1 32) 1)) ∷ []))) ∷ (trees.Method (at 0 1 46) true (codes "m") (trees.Signature (at 0 1 46) (trees.PrimitiveType (at 0 1 42) Int) (list_of ((trees.Parameter (at 0 1 50) (trees.NamedType (at 0 1 48) (codes "A")) (codes "a")) ∷ [])) Nil) (list_of ((trees.Return (at 0 1 55) (trees.Binary (at 0 1 62) Add (trees.Binary (at 0 1 62) Add (trees.MethodCall (at 0 1 62) (trees.Variable (at 0 1 62) (codes "a")) (codes "n") Nil) (trees.Variable (at 0 1 70) (codes "K"))) (trees.Call (at 0 1 74) (codes "m") (list_of ((trees.Variable (at 0 1 76) (codes "a")) ∷ []))))) ∷ []))) ∷ (trees.Method (at 0 1 86) false (codes "n") (trees.Signature (at 0 1 86) (trees.PrimitiveType (at 0 1 82) Int) Nil Nil) (list_of ((trees.Return (at 0 1 92) (trees.Call (at 0 1 99) (codes "m") (list_of ((trees.This (at 0 1 101)) ∷ [])))) ∷ []))) ∷ []))) ∷ [])) ∷ []

-- class A { int m() { return 2147483648; } }
abbrev pub t6_alone : List Tree
t6_alone = (list_of ((trees.Class (at 0 1 7) (codes "A") Nil (list_of ((trees.Method (at 0 1 15) false (codes "m") (trees.Signature (at 0 1 15) (trees.PrimitiveType (at 0 1 11) Int) Nil Nil) (list_of ((trees.Return (at 0 1 21) (trees.Number (at 0 1 28) 2147483648)) ∷ []))) ∷ []))) ∷ [])) ∷ []

-- class A { int m() { return -(+2147483648); } }
abbrev pub t6_plus : List Tree
t6_plus = (list_of ((trees.Class (at 0 1 7) (codes "A") Nil (list_of ((trees.Method (at 0 1 15) false (codes "m") (trees.Signature (at 0 1 15) (trees.PrimitiveType (at 0 1 11) Int) Nil Nil) (list_of ((trees.Return (at 0 1 21) (trees.Unary (at 0 1 28) Minus (trees.Unary (at 0 1 30) Plus (trees.Number (at 0 1 31) 2147483648)))) ∷ []))) ∷ []))) ∷ [])) ∷ []

-- class A { int m() { return -2147483648 + -(2147483648) + 2147483647; } }
abbrev pub t6_fine : List Tree
t6_fine = (list_of ((trees.Class (at 0 1 7) (codes "A") Nil (list_of ((trees.Method (at 0 1 15) false (codes "m") (trees.Signature (at 0 1 15) (trees.PrimitiveType (at 0 1 11) Int) Nil Nil) (list_of ((trees.Return (at 0 1 21) (trees.Binary (at 0 1 28) Add (trees.Binary (at 0 1 28) Add (trees.Unary (at 0 1 28) Minus (trees.Number (at 0 1 29) 2147483648)) (trees.Unary (at 0 1 42) Minus (trees.Number (at 0 1 44) 2147483648))) (trees.Number (at 0 1 58) 2147483647))) ∷ []))) ∷ []))) ∷ [])) ∷ []

-- class A { int m() { return 1 + true; } }
abbrev pub t7 : List Tree
t7 = (list_of ((trees.Class (at 0 1 7) (codes "A") Nil (list_of ((trees.Method (at 0 1 15) false (codes "m") (trees.Signature (at 0 1 15) (trees.PrimitiveType (at 0 1 11) Int) Nil Nil) (list_of ((trees.Return (at 0 1 21) (trees.Binary (at 0 1 28) Add (trees.Number (at 0 1 28) 1) (trees.Truth (at 0 1 32) true))) ∷ []))) ∷ []))) ∷ [])) ∷ []

-- class A { int m() { return 1 << null; } }
abbrev pub t8 : List Tree
t8 = (list_of ((trees.Class (at 0 1 7) (codes "A") Nil (list_of ((trees.Method (at 0 1 15) false (codes "m") (trees.Signature (at 0 1 15) (trees.PrimitiveType (at 0 1 11) Int) Nil Nil) (list_of ((trees.Return (at 0 1 21) (trees.Binary (at 0 1 28) ShiftLeft (trees.Number (at 0 1 28) 1) (trees.Null (at 0 1 33)))) ∷ []))) ∷ []))) ∷ [])) ∷ []

-- class A { boolean m() { return true < false; } }
abbrev pub t9 : List Tree
t9 = (list_of ((trees.Class (at 0 1 7) (codes "A") Nil (list_of ((trees.Method (at 0 1 19) false (codes "m") (trees.Signature (at 0 1 19) (trees.PrimitiveType (at 0 1 11) Boolean) Nil Nil) (list_of ((trees.Return (at 0 1 25) (trees.Binary (at 0 1 32) Less (trees.Truth (at 0 1 32) true) (trees.Truth (at 0 1 39) false))) ∷ []))) ∷ []))) ∷ [])) ∷ []

-- class A { boolean m(A a) { return a == 1; } }
abbrev pub t10 : List Tree
t10 = (list_of ((trees.Class (at 0 1 7) (codes "A") Nil (list_of ((trees.Method (at 0 1 19) false (codes "m") (trees.Signature (at 0 1 19) (trees.PrimitiveType (at 0 1 11) Boolean) (list_of ((trees.Parameter (at 0 1 23) (trees.NamedType (at 0 1 21) (codes "A")) (codes "a")) ∷ [])) Nil) (list_of ((trees.Return (at 0 1 28) (trees.Binary (at 0 1 35) Equal (trees.Variable (at 0 1 35) (codes "a")) (trees.Number (at 0 1 40) 1))) ∷ []))) ∷ []))) ∷ [])) ∷ []

-- class A { boolean m(B b) { return this != b; } } class B { }
abbrev pub t10_unrelated : List Tree
t10_unrelated = (list_of ((trees.Class (at 0 1 7) (codes "A") Nil (list_of ((trees.Method (at 0 1 19) false (codes "m") (trees.Signature (at 0 1 19) (trees.PrimitiveType (at 0 1 11) Boolean) (list_of ((trees.Parameter (at 0 1 23) (trees.NamedType (at 0 1 21) (codes "B")) (codes "b")) ∷ [])) Nil) (list_of ((trees.Return (at 0 1 28) (trees.Binary (at 0 1 35) NotEqual (trees.This (at 0 1 35)) (trees.Variable (at 0 1 43) (codes "b")))) ∷ []))) ∷ []))) ∷ (trees.Class (at 0 1 56) (codes "B") Nil Nil) ∷ [])) ∷ []

-- class A { boolean m(B b, int[] c, HashSet<A> d) { return this == b == (c != null) != (null == null) && 1 == 2 && d == null; } } class B extends A { }
abbrev pub t10_fine : List Tree
t10_fine = (list_of ((trees.Class (at 0 1 7) (codes "A") Nil (list_of ((trees.Method (at 0 1 19) false (codes "m") (trees.Signature (at 0 1 19) (trees.PrimitiveType (at 0 1 11) Boolean) (list_of ((trees.Parameter (at 0 1 23) (trees.NamedType (at 0 1 21) (codes "B")) (codes "b")) ∷ (trees.Parameter (at 0 1 32) (trees.ArrayType (at 0 1 26) (trees.PrimitiveType (at 0 1 26) Int)) (codes "c")) ∷ (trees.Parameter (at 0 1 46) (trees.GenericType (at 0 1 35) (trees.NamedType (at 0 1 35) (codes "HashSet")) (trees.NamedType (at 0 1 43) (codes "A"))) (codes "d")) ∷ [])) Nil) (list_of ((trees.Return (at 0 1 51) (trees.Binary (at 0 1 58) And (trees.Binary (at 0 1 58) And (trees.Binary (at 0 1 58) NotEqual (trees.Binary (at 0 1 58) Equal (trees.Binary (at 0 1 58) Equal (trees.This (at 0 1 58)) (trees.Variable (at 0 1 66) (codes "b"))) (trees.Binary (at 0 1 72) NotEqual (trees.Variable (at 0 1 72) (codes "c")) (trees.Null (at 0 1 77)))) (trees.Binary (at 0 1 87) Equal (trees.Null (at 0 1 87)) (trees.Null (at 0 1 95)))) (trees.Binary (at 0 1 104) Equal (trees.Number (at 0 1 104) 1) (trees.Number (at 0 1 109) 2))) (trees.Binary (at 0 1 114) Equal (trees.Variable (at 0 1 114) (codes "d")) (trees.Null (at 0 1 119))))) ∷ []))) ∷ []))) ∷ (trees.Class (at 0 1 135) (codes "B") (trees.NamedType (at 0 1 145) (codes "A")) Nil) ∷ [])) ∷ []

-- class A { int m() { return 1 & true; } }
abbrev pub t11 : List Tree
t11 = (list_of ((trees.Class (at 0 1 7) (codes "A") Nil (list_of ((trees.Method (at 0 1 15) false (codes "m") (trees.Signature (at 0 1 15) (trees.PrimitiveType (at 0 1 11) Int) Nil Nil) (list_of ((trees.Return (at 0 1 21) (trees.Binary (at 0 1 28) BitAnd (trees.Number (at 0 1 28) 1) (trees.Truth (at 0 1 32) true))) ∷ []))) ∷ []))) ∷ [])) ∷ []

-- class A { boolean m() { return (1 & 2 | 3 ^ 4) == 5 & true ^ false; } }
abbrev pub t11_fine : List Tree
t11_fine = (list_of ((trees.Class (at 0 1 7) (codes "A") Nil (list_of ((trees.Method (at 0 1 19) false (codes "m") (trees.Signature (at 0 1 19) (trees.PrimitiveType (at 0 1 11) Boolean) Nil Nil) (list_of ((trees.Return (at 0 1 25) (trees.Binary (at 0 1 32) BitXor (trees.Binary (at 0 1 32) BitAnd (trees.Binary (at 0 1 32) Equal (trees.Binary (at 0 1 33) BitOr (trees.Binary (at 0 1 33) BitAnd (trees.Number (at 0 1 33) 1) (trees.Number (at 0 1 37) 2)) (trees.Binary (at 0 1 41) BitXor (trees.Number (at 0 1 41) 3) (trees.Number (at 0 1 45) 4))) (trees.Number (at 0 1 51) 5)) (trees.Truth (at 0 1 55) true)) (trees.Truth (at 0 1 62) false))) ∷ []))) ∷ []))) ∷ [])) ∷ []

-- class A { boolean m() { return 1 && true; } }
abbrev pub t12 : List Tree
t12 = (list_of ((trees.Class (at 0 1 7) (codes "A") Nil (list_of ((trees.Method (at 0 1 19) false (codes "m") (trees.Signature (at 0 1 19) (trees.PrimitiveType (at 0 1 11) Boolean) Nil Nil) (list_of ((trees.Return (at 0 1 25) (trees.Binary (at 0 1 32) And (trees.Number (at 0 1 32) 1) (trees.Truth (at 0 1 37) true))) ∷ []))) ∷ []))) ∷ [])) ∷ []

-- class A { boolean m() { return !1; } }
abbrev pub t13 : List Tree
t13 = (list_of ((trees.Class (at 0 1 7) (codes "A") Nil (list_of ((trees.Method (at 0 1 19) false (codes "m") (trees.Signature (at 0 1 19) (trees.PrimitiveType (at 0 1 11) Boolean) Nil Nil) (list_of ((trees.Return (at 0 1 25) (trees.Unary (at 0 1 32) Not (trees.Number (at 0 1 33) 1))) ∷ []))) ∷ []))) ∷ [])) ∷ []

-- class A { int m() { return ~true; } }
abbrev pub t14 : List Tree
t14 = (list_of ((trees.Class (at 0 1 7) (codes "A") Nil (list_of ((trees.Method (at 0 1 15) false (codes "m") (trees.Signature (at 0 1 15) (trees.PrimitiveType (at 0 1 11) Int) Nil Nil) (list_of ((trees.Return (at 0 1 21) (trees.Unary (at 0 1 28) Complement (trees.Truth (at 0 1 29) true))) ∷ []))) ∷ []))) ∷ [])) ∷ []

-- class A { int m() { return 1 ? 2 : 3; } }
abbrev pub t15 : List Tree
t15 = (list_of ((trees.Class (at 0 1 7) (codes "A") Nil (list_of ((trees.Method (at 0 1 15) false (codes "m") (trees.Signature (at 0 1 15) (trees.PrimitiveType (at 0 1 11) Int) Nil Nil) (list_of ((trees.Return (at 0 1 21) (trees.Conditional (at 0 1 28) (trees.Number (at 0 1 28) 1) (trees.Number (at 0 1 32) 2) (trees.Number (at 0 1 36) 3))) ∷ []))) ∷ []))) ∷ [])) ∷ []

-- class A { int m(boolean b) { return b ? 2 : null; } }
abbrev pub t15_arms : List Tree
t15_arms = (list_of ((trees.Class (at 0 1 7) (codes "A") Nil (list_of ((trees.Method (at 0 1 15) false (codes "m") (trees.Signature (at 0 1 15) (trees.PrimitiveType (at 0 1 11) Int) (list_of ((trees.Parameter (at 0 1 25) (trees.PrimitiveType (at 0 1 17) Boolean) (codes "b")) ∷ [])) Nil) (list_of ((trees.Return (at 0 1 30) (trees.Conditional (at 0 1 37) (trees.Variable (at 0 1 37) (codes "b")) (trees.Number (at 0 1 41) 2) (trees.Null (at 0 1 45)))) ∷ []))) ∷ []))) ∷ [])) ∷ []

-- class A { A m(boolean b, B c) { return b ? this : b ? c : null; } B n(boolean b) { return b ? null : new B(); } } class B extends A { }
abbrev pub t15_fine : List Tree
t15_fine = (list_of ((trees.Class (at 0 1 7) (codes "A") Nil (list_of ((trees.Method (at 0 1 13) false (codes "m") (trees.Signature (at 0 1 13) (trees.NamedType (at 0 1 11) (codes "A")) (list_of ((trees.Parameter (at 0 1 23) (trees.PrimitiveType (at 0 1 15) Boolean) (codes "b")) ∷ (trees.Parameter (at 0 1 28) (trees.NamedType (at 0 1 26) (codes "B")) (codes "c")) ∷ [])) Nil) (list_of ((trees.Return (at 0 1 33) (trees.Conditional (at 0 1 40) (trees.Variable (at 0 1 40) (codes "b")) (trees.This (at 0 1 44)) (trees.Conditional (at 0 1 51) (trees.Variable (at 0 1 51) (codes "b")) (trees.Variable (at 0 1 55) (codes "c")) (trees.Null (at 0 1 59))))) ∷ []))) ∷ (trees.Method (at 0 1 69) false (codes "n") (trees.Signature (at 0 1 69) (trees.NamedType (at 0 1 67) (codes "B")) (list_of ((trees.Parameter (at 0 1 79) (trees.PrimitiveType (at 0 1 71) Boolean) (codes "b")) ∷ [])) Nil) (list_of ((trees.Return (at 0 1 84) (trees.Conditional (at 0 1 91) (trees.Variable (at 0 1 91) (codes "b")) (trees.Null (at 0 1 95)) (trees.ObjectCreation (at 0 1 102) (trees.NamedType (at 0 1 106) (codes "B")) Nil))) ∷ []))) ∷ []))) ∷ (trees.Class (at 0 1 121) (codes "B") (trees.NamedType (at 0 1 131) (codes "A")) Nil) ∷ [])) ∷ []

-- class A { void m(int x) { x = true; } }
abbrev pub t16 : List Tree
t16 = (list_of ((trees.Class (at 0 1 7) (codes "A") Nil (list_of ((trees.Method (at 0 1 16) false (codes "m") (trees.Signature (at 0 1 16) (trees.PrimitiveType (at 0 1 16) Void) (list_of ((trees.Parameter (at 0 1 22) (trees.PrimitiveType (at 0 1 18) Int) (codes "x")) ∷ [])) Nil) (list_of ((trees.ExpressionStatement (at 0 1 27) (trees.Assignment (at 0 1 27) (trees.Variable (at 0 1 27) (codes "x")) (trees.Truth (at 0 1 31) true))) ∷ []))) ∷ []))) ∷ [])) ∷ []

-- class A { void m(A a, B b) { a = b; b = a; } } class B extends A { }
abbrev pub t16_below : List Tree
t16_below = (list_of ((trees.Class (at 0 1 7) (codes "A") Nil (list_of ((trees.Method (at 0 1 16) false (codes "m") (trees.Signature (at 0 1 16) (trees.PrimitiveType (at 0 1 16) Void) (list_of ((trees.Parameter (at 0 1 20) (trees.NamedType (at 0 1 18) (codes "A")) (codes "a")) ∷ (trees.Parameter (at 0 1 25) (trees.NamedType (at 0 1 23) (codes "B")) (codes "b")) ∷ [])) Nil) (list_of ((trees.ExpressionStatement (at 0 1 30) (trees.Assignment (at 0 1 30) (trees.Variable (at 0 1 30) (codes "a")) (trees.Variable (at 0 1 34) (codes "b")))) ∷ (trees.ExpressionStatement (at 0 1 37) (trees.Assignment (at 0 1 37) (trees.Variable (at 0 1 37) (codes "b")) (trees.Variable (at 0 1 41) (codes "a")))) ∷ []))) ∷ []))) ∷ (trees.Class (at 0 1 54) (codes "B") (trees.NamedType (at 0 1 64) (codes "A")) Nil) ∷ [])) ∷ []

-- class A { void m(boolean b) { b += 1; } }
abbrev pub t17 : List Tree
t17 = (list_of ((trees.Class (at 0 1 7) (codes "A") Nil (list_of ((trees.Method (at 0 1 16) false (codes "m") (trees.Signature (at 0 1 16) (trees.PrimitiveType (at 0 1 16) Void) (list_of ((trees.Parameter (at 0 1 26) (trees.PrimitiveType (at 0 1 18) Boolean) (codes "b")) ∷ [])) Nil) (list_of ((trees.ExpressionStatement (at 0 1 31) (trees.CompoundAssignment (at 0 1 31) Add (trees.Variable (at 0 1 31) (codes "b")) (trees.Number (at 0 1 36) 1))) ∷ []))) ∷ []))) ∷ [])) ∷ []

-- class A { void m(boolean b, int i) { b &= true; i <<= 2; i ^= i; } }
abbrev pub t17_fine : List Tree
t17_fine = (list_of ((trees.Class (at 0 1 7) (codes "A") Nil (list_of ((trees.Method (at 0 1 16) false (codes "m") (trees.Signature (at 0 1 16) (trees.PrimitiveType (at 0 1 16) Void) (list_of ((trees.Parameter (at 0 1 26) (trees.PrimitiveType (at 0 1 18) Boolean) (codes "b")) ∷ (trees.Parameter (at 0 1 33) (trees.PrimitiveType (at 0 1 29) Int) (codes "i")) ∷ [])) Nil) (list_of ((trees.ExpressionStatement (at 0 1 38) (trees.CompoundAssignment (at 0 1 38) BitAnd (trees.Variable (at 0 1 38) (codes "b")) (trees.Truth (at 0 1 43) true))) ∷ (trees.ExpressionStatement (at 0 1 49) (trees.CompoundAssignment (at 0 1 49) ShiftLeft (trees.Variable (at 0 1 49) (codes "i")) (trees.Number (at 0 1 55) 2))) ∷ (trees.ExpressionStatement (at 0 1 58) (trees.CompoundAssignment (at 0 1 58) BitXor (trees.Variable (at 0 1 58) (codes "i")) (trees.Variable (at 0 1 63) (codes "i")))) ∷ []))) ∷ []))) ∷ [])) ∷ []

-- class A { void m(boolean b) { b++; } }
abbrev pub t18 : List Tree
t18 = (list_of ((trees.Class (at 0 1 7) (codes "A") Nil (list_of ((trees.Method (at 0 1 16) false (codes "m") (trees.Signature (at 0 1 16) (trees.PrimitiveType (at 0 1 16) Void) (list_of ((trees.Parameter (at 0 1 26) (trees.PrimitiveType (at 0 1 18) Boolean) (codes "b")) ∷ [])) Nil) (list_of ((trees.ExpressionStatement (at 0 1 31) (trees.Step (at 0 1 31) IncrementBehind (trees.Variable (at 0 1 31) (codes "b")))) ∷ []))) ∷ []))) ∷ [])) ∷ []

-- class A { static final int K = 1; void m() { K = 2; } }
abbrev pub t19_constant : List Tree
t19_constant = (list_of ((trees.Class (at 0 1 7) (codes "A") Nil (list_of ((trees.Field (at 0 1 24) true true (trees.PrimitiveType (at 0 1 24) Int) (list_of ((trees.Declarator (at 0 1 28) (codes "K") (trees.Number (at 0 1 32) 1)) ∷ []))) ∷ (trees.Method (at 0 1 40) false (codes "m") (trees.Signature (at 0 1 40) (trees.PrimitiveType (at 0 1 40) Void) Nil Nil) (list_of ((trees.ExpressionStatement (at 0 1 46) (trees.Assignment (at 0 1 46) (trees.Variable (at 0 1 46) (codes "K")) (trees.Number (at 0 1 50) 2))) ∷ []))) ∷ []))) ∷ [])) ∷ []

-- class A { void m(int[] a) { a.length = 2; } }
abbrev pub t19_length : List Tree
t19_length = (list_of ((trees.Class (at 0 1 7) (codes "A") Nil (list_of ((trees.Method (at 0 1 16) false (codes "m") (trees.Signature (at 0 1 16) (trees.PrimitiveType (at 0 1 16) Void) (list_of ((trees.Parameter (at 0 1 24) (trees.ArrayType (at 0 1 18) (trees.PrimitiveType (at 0 1 18) Int)) (codes "a")) ∷ [])) Nil) (list_of ((trees.ExpressionStatement (at 0 1 29) (trees.Assignment (at 0 1 29) (trees.FieldAccess (at 0 1 29) (trees.Variable (at 0 1 29) (codes "a")) (codes "length")) (trees.Number (at 0 1 40) 2))) ∷ []))) ∷ []))) ∷ [])) ∷ []

-- class A { int f() { return 1; } void m() { ++f(); } }
abbrev pub t19_call : List Tree
t19_call = (list_of ((trees.Class (at 0 1 7) (codes "A") Nil (list_of ((trees.Method (at 0 1 15) false (codes "f") (trees.Signature (at 0 1 15) (trees.PrimitiveType (at 0 1 11) Int) Nil Nil) (list_of ((trees.Return (at 0 1 21) (trees.Number (at 0 1 28) 1)) ∷ []))) ∷ (trees.Method (at 0 1 38) false (codes "m") (trees.Signature (at 0 1 38) (trees.PrimitiveType (at 0 1 38) Void) Nil Nil) (list_of ((trees.ExpressionStatement (at 0 1 44) (trees.Step (at 0 1 44) IncrementBefore (trees.Call (at 0 1 46) (codes "f") Nil))) ∷ []))) ∷ []))) ∷ [])) ∷ []

-- class A { int v; A n; void m(int[] a, int x) { x = 1; a[0] = 2; v = 3; n.n.v += 4; this.v--; } }
abbrev pub t19_fine : List Tree
t19_fine = (list_of ((trees.Class (at 0 1 7) (codes "A") Nil (list_of ((trees.Field (at 0 1 11) false false (trees.PrimitiveType (at 0 1 11) Int) (list_of ((trees.Declarator (at 0 1 15) (codes "v") Nil) ∷ []))) ∷ (trees.Field (at 0 1 18) false false (trees.NamedType (at 0 1 18) (codes "A")) (list_of ((trees.Declarator (at 0 1 20) (codes "n") Nil) ∷ []))) ∷ (trees.Method (at 0 1 28) false (codes "m") (trees.Signature (at 0 1 28) (trees.PrimitiveType (at 0 1 28) Void) (list_of ((trees.Parameter (at 0 1 36) (trees.ArrayType (at 0 1 30) (trees.PrimitiveType (at 0 1 30) Int)) (codes "a")) ∷ (trees.Parameter (at 0 1 43) (trees.PrimitiveType (at 0 1 39) Int) (codes "x")) ∷ [])) Nil) (list_of ((trees.ExpressionStatement (at 0 1 48) (trees.Assignment (at 0 1 48) (trees.Variable (at 0 1 48) (codes "x")) (trees.Number (at 0 1 52) 1))) ∷ (trees.ExpressionStatement (at 0 1 55) (trees.Assignment (at 0 1 55) (trees.ArrayAccess (at 0 1 55) (trees.Variable (at 0 1 55) (codes "a")) (trees.Number (at 0 1 57) 0)) (trees.Number (at 0 1 62) 2))) ∷ (trees.ExpressionStatement (at 0 1 65) (trees.Assignment (at 0 1 65) (trees.Variable (at 0 1 65) (codes "v")) (trees.Number (at 0 1 69) 3))) ∷ (trees.ExpressionStatement (at 0 1 72) (trees.CompoundAssignment (at 0 1 72) Add (trees.FieldAccess (at 0 1 72) (trees.FieldAccess (at 0 1 72) (trees.Variable (at 0 1 72) (codes "n")) (codes "n")) (codes "v")) (trees.Number (at 0 1 81) 4))) ∷ (trees.ExpressionStatement (at 0 1 84) (trees.Step (at 0 1 84) DecrementBehind (trees.FieldAccess (at 0 1 84) (trees.This (at 0 1 84)) (codes "v")))) ∷ []))) ∷ []))) ∷ [])) ∷ []

-- class A { int m() { return (int) true; } }
abbrev pub t20 : List Tree
t20 = (list_of ((trees.Class (at 0 1 7) (codes "A") Nil (list_of ((trees.Method (at 0 1 15) false (codes "m") (trees.Signature (at 0 1 15) (trees.PrimitiveType (at 0 1 11) Int) Nil Nil) (list_of ((trees.Return (at 0 1 21) (trees.Cast (at 0 1 28) (trees.PrimitiveType (at 0 1 29) Int) (trees.Truth (at 0 1 34) true))) ∷ []))) ∷ []))) ∷ [])) ∷ []

-- class A { A m(B b) { return (A) b; } } class B { }
abbrev pub t20_unrelated : List Tree
t20_unrelated = (list_of ((trees.Class (at 0 1 7) (codes "A") Nil (list_of ((trees.Method (at 0 1 13) false (codes "m") (trees.Signature (at 0 1 13) (trees.NamedType (at 0 1 11) (codes "A")) (list_of ((trees.Parameter (at 0 1 17) (trees.NamedType (at 0 1 15) (codes "B")) (codes "b")) ∷ [])) Nil) (list_of ((trees.Return (at 0 1 22) (trees.Cast (at 0 1 29) (trees.NamedType (at 0 1 30) (codes "A")) (trees.Variable (at 0 1 33) (codes "b")))) ∷ []))) ∷ []))) ∷ (trees.Class (at 0 1 46) (codes "B") Nil Nil) ∷ [])) ∷ []

-- class A { HashSet<A> m(HashSet<A> s) { return (HashSet<A>) s; } }
abbrev pub t20_collection : List Tree
t20_collection = (list_of ((trees.Class (at 0 1 7) (codes "A") Nil (list_of ((trees.Method (at 0 1 22) false (codes "m") (trees.Signature (at 0 1 22) (trees.GenericType (at 0 1 11) (trees.NamedType (at 0 1 11) (codes "HashSet")) (trees.NamedType (at 0 1 19) (codes "A"))) (list_of ((trees.Parameter (at 0 1 35) (trees.GenericType (at 0 1 24) (trees.NamedType (at 0 1 24) (codes "HashSet")) (trees.NamedType (at 0 1 32) (codes "A"))) (codes "s")) ∷ [])) Nil) (list_of ((trees.Return (at 0 1 40) (trees.Cast (at 0 1 47) (trees.GenericType (at 0 1 48) (trees.NamedType (at 0 1 48) (codes "HashSet")) (trees.NamedType (at 0 1 56) (codes "A"))) (trees.Variable (at 0 1 60) (codes "s")))) ∷ []))) ∷ []))) ∷ [])) ∷ []

-- class A { B m(A a) { return (B) (A) a; } int n() { return (int) 1; } int[] p() { return (int[]) null; } } class B extends A { }
abbrev pub t20_fine : List Tree
t20_fine = (list_of ((trees.Class (at 0 1 7) (codes "A") Nil (list_of ((trees.Method (at 0 1 13) false (codes "m") (trees.Signature (at 0 1 13) (trees.NamedType (at 0 1 11) (codes "B")) (list_of ((trees.Parameter (at 0 1 17) (trees.NamedType (at 0 1 15) (codes "A")) (codes "a")) ∷ [])) Nil) (list_of ((trees.Return (at 0 1 22) (trees.Cast (at 0 1 29) (trees.NamedType (at 0 1 30) (codes "B")) (trees.Cast (at 0 1 33) (trees.NamedType (at 0 1 34) (codes "A")) (trees.Variable (at 0 1 37) (codes "a"))))) ∷ []))) ∷ (trees.Method (at 0 1 46) false (codes "n") (trees.Signature (at 0 1 46) (trees.PrimitiveType (at 0 1 42) Int) Nil Nil) (list_of ((trees.Return (at 0 1 52) (trees.Cast (at 0 1 59) (trees.PrimitiveType (at 0 1 60) Int) (trees.Number (at 0 1 65) 1))) ∷ []))) ∷ (trees.Method (at 0 1 76) false (codes "p") (trees.Signature (at 0 1 76) (trees.ArrayType (at 0 1 70) (trees.PrimitiveType (at 0 1 70) Int)) Nil Nil) (list_of ((trees.Return (at 0 1 82) (trees.Cast (at 0 1 89) (trees.ArrayType (at 0 1 90) (trees.PrimitiveType (at 0 1 90) Int)) (trees.Null (at 0 1 97)))) ∷ []))) ∷ []))) ∷ (trees.Class (at 0 1 113) (codes "B") (trees.NamedType (at 0 1 123) (codes "A")) Nil) ∷ [])) ∷ []

-- class A { boolean m(int x) { return x instanceof A; } }
abbrev pub t21 : List Tree
t21 = (list_of ((trees.Class (at 0 1 7) (codes "A") Nil (list_of ((trees.Method (at 0 1 19) false (codes "m") (trees.Signature (at 0 1 19) (trees.PrimitiveType (at 0 1 11) Boolean) (list_of ((trees.Parameter (at 0 1 25) (trees.PrimitiveType (at 0 1 21) Int) (codes "x")) ∷ [])) Nil) (list_of ((trees.Return (at 0 1 30) (trees.InstanceOf (at 0 1 37) (trees.Variable (at 0 1 37) (codes "x")) (trees.NamedType (at 0 1 50) (codes "A")))) ∷ []))) ∷ []))) ∷ [])) ∷ []

-- class A { boolean m(B b) { return b instanceof A; } } class B { }
abbrev pub t21_unrelated : List Tree
t21_unrelated = (list_of ((trees.Class (at 0 1 7) (codes "A") Nil (list_of ((trees.Method (at 0 1 19) false (codes "m") (trees.Signature (at 0 1 19) (trees.PrimitiveType (at 0 1 11) Boolean) (list_of ((trees.Parameter (at 0 1 23) (trees.NamedType (at 0 1 21) (codes "B")) (codes "b")) ∷ [])) Nil) (list_of ((trees.Return (at 0 1 28) (trees.InstanceOf (at 0 1 35) (trees.Variable (at 0 1 35) (codes "b")) (trees.NamedType (at 0 1 48) (codes "A")))) ∷ []))) ∷ []))) ∷ (trees.Class (at 0 1 61) (codes "B") Nil Nil) ∷ [])) ∷ []

-- class A { boolean m(A a, int[] b) { return a instanceof B && b instanceof int[] && null instanceof A; } } class B extends A { }
abbrev pub t21_fine : List Tree
t21_fine = (list_of ((trees.Class (at 0 1 7) (codes "A") Nil (list_of ((trees.Method (at 0 1 19) false (codes "m") (trees.Signature (at 0 1 19) (trees.PrimitiveType (at 0 1 11) Boolean) (list_of ((trees.Parameter (at 0 1 23) (trees.NamedType (at 0 1 21) (codes "A")) (codes "a")) ∷ (trees.Parameter (at 0 1 32) (trees.ArrayType (at 0 1 26) (trees.PrimitiveType (at 0 1 26) Int)) (codes "b")) ∷ [])) Nil) (list_of ((trees.Return (at 0 1 37) (trees.Binary (at 0 1 44) And (trees.Binary (at 0 1 44) And (trees.InstanceOf (at 0 1 44) (trees.Variable (at 0 1 44) (codes "a")) (trees.NamedType (at 0 1 57) (codes "B"))) (trees.InstanceOf (at 0 1 62) (trees.Variable (at 0 1 62) (codes "b")) (trees.ArrayType (at 0 1 75) (trees.PrimitiveType (at 0 1 75) Int)))) (trees.InstanceOf (at 0 1 84) (trees.Null (at 0 1 84)) (trees.NamedType (at 0 1 100) (codes "A"))))) ∷ []))) ∷ []))) ∷ (trees.Class (at 0 1 113) (codes "B") (trees.NamedType (at 0 1 123) (codes "A")) Nil) ∷ [])) ∷ []

-- class A { int m() { return this.x; } }
abbrev pub t22 : List Tree
t22 = (list_of ((trees.Class (at 0 1 7) (codes "A") Nil (list_of ((trees.Method (at 0 1 15) false (codes "m") (trees.Signature (at 0 1 15) (trees.PrimitiveType (at 0 1 11) Int) Nil Nil) (list_of ((trees.Return (at 0 1 21) (trees.FieldAccess (at 0 1 28) (trees.This (at 0 1 28)) (codes "x"))) ∷ []))) ∷ []))) ∷ [])) ∷ []

-- class A { static final int K = 1; int m() { return this.K; } }
abbrev pub t22_constant : List Tree
t22_constant = (list_of ((trees.Class (at 0 1 7) (codes "A") Nil (list_of ((trees.Field (at 0 1 24) true true (trees.PrimitiveType (at 0 1 24) Int) (list_of ((trees.Declarator (at 0 1 28) (codes "K") (trees.Number (at 0 1 32) 1)) ∷ []))) ∷ (trees.Method (at 0 1 39) false (codes "m") (trees.Signature (at 0 1 39) (trees.PrimitiveType (at 0 1 35) Int) Nil Nil) (list_of ((trees.Return (at 0 1 45) (trees.FieldAccess (at 0 1 52) (trees.This (at 0 1 52)) (codes "K"))) ∷ []))) ∷ []))) ∷ [])) ∷ []

-- class A { int v; int m() { return A.v; } }
abbrev pub t22_static : List Tree
t22_static = (list_of ((trees.Class (at 0 1 7) (codes "A") Nil (list_of ((trees.Field (at 0 1 11) false false (trees.PrimitiveType (at 0 1 11) Int) (list_of ((trees.Declarator (at 0 1 15) (codes "v") Nil) ∷ []))) ∷ (trees.Method (at 0 1 22) false (codes "m") (trees.Signature (at 0 1 22) (trees.PrimitiveType (at 0 1 18) Int) Nil Nil) (list_of ((trees.Return (at 0 1 28) (trees.FieldAccess (at 0 1 35) (trees.Variable (at 0 1 35) (codes "A")) (codes "v"))) ∷ []))) ∷ []))) ∷ [])) ∷ []

-- class A { static class B { static final int K = 1; } int m() { return A.B.K; } }
abbrev pub t22_outer : List Tree
t22_outer = (list_of ((trees.Class (at 0 1 7) (codes "A") Nil (list_of ((trees.Class (at 0 1 24) (codes "B") Nil (list_of ((trees.Field (at 0 1 41) true true (trees.PrimitiveType (at 0 1 41) Int) (list_of ((trees.Declarator (at 0 1 45) (codes "K") (trees.Number (at 0 1 49) 1)) ∷ []))) ∷ []))) ∷ (trees.Method (at 0 1 58) false (codes "m") (trees.Signature (at 0 1 58) (trees.PrimitiveType (at 0 1 54) Int) Nil Nil) (list_of ((trees.Return (at 0 1 64) (trees.FieldAccess (at 0 1 71) (trees.FieldAccess (at 0 1 71) (trees.Variable (at 0 1 71) (codes "A")) (codes "B")) (codes "K"))) ∷ []))) ∷ []))) ∷ [])) ∷ []

-- class A { int m(int x) { return x.length; } }
abbrev pub t22_int : List Tree
t22_int = (list_of ((trees.Class (at 0 1 7) (codes "A") Nil (list_of ((trees.Method (at 0 1 15) false (codes "m") (trees.Signature (at 0 1 15) (trees.PrimitiveType (at 0 1 11) Int) (list_of ((trees.Parameter (at 0 1 21) (trees.PrimitiveType (at 0 1 17) Int) (codes "x")) ∷ [])) Nil) (list_of ((trees.Return (at 0 1 26) (trees.FieldAccess (at 0 1 33) (trees.Variable (at 0 1 33) (codes "x")) (codes "length"))) ∷ []))) ∷ []))) ∷ [])) ∷ []

-- class A { static final int K = 1; int v; int m(int[] a, B b) { return a.length + A.K + b.v + B.K; } } class B extends A { }
abbrev pub t22_fine : List Tree
t22_fine = (list_of ((trees.Class (at 0 1 7) (codes "A") Nil (list_of ((trees.Field (at 0 1 24) true true (trees.PrimitiveType (at 0 1 24) Int) (list_of ((trees.Declarator (at 0 1 28) (codes "K") (trees.Number (at 0 1 32) 1)) ∷ []))) ∷ (trees.Field (at 0 1 35) false false (trees.PrimitiveType (at 0 1 35) Int) (list_of ((trees.Declarator (at 0 1 39) (codes "v") Nil) ∷ []))) ∷ (trees.Method (at 0 1 46) false (codes "m") (trees.Signature (at 0 1 46) (trees.PrimitiveType (at 0 1 42) Int) (list_of ((trees.Parameter (at 0 1 54) (trees.ArrayType (at 0 1 48) (trees.PrimitiveType (at 0 1 48) Int)) (codes "a")) ∷ (trees.Parameter (at 0 1 59) (trees.NamedType (at 0 1 57) (codes "B")) (codes "b")) ∷ [])) Nil) (list_of ((trees.Return (at 0 1 64) (trees.Binary (at 0 1 71) Add (trees.Binary (at 0 1 71) Add (trees.Binary (at 0 1 71) Add (trees.FieldAccess (at 0 1 71) (trees.Variable (at 0 1 71) (codes "a")) (codes "length")) (trees.FieldAccess (at 0 1 82) (trees.Variable (at 0 1 82) (codes "A")) (codes "K"))) (trees.FieldAccess (at 0 1 88) (trees.Variable (at 0 1 88) (codes "b")) (codes "v"))) (trees.FieldAccess (at 0 1 94) (trees.Variable (at 0 1 94) (codes "B")) (codes "K")))) ∷ []))) ∷ []))) ∷ (trees.Class (at 0 1 109) (codes "B") (trees.NamedType (at 0 1 119) (codes "A")) Nil) ∷ [])) ∷ []

-- class A { int m(int[] a) { return a[true]; } }
abbrev pub t23 : List Tree
t23 = (list_of ((trees.Class (at 0 1 7) (codes "A") Nil (list_of ((trees.Method (at 0 1 15) false (codes "m") (trees.Signature (at 0 1 15) (trees.PrimitiveType (at 0 1 11) Int) (list_of ((trees.Parameter (at 0 1 23) (trees.ArrayType (at 0 1 17) (trees.PrimitiveType (at 0 1 17) Int)) (codes "a")) ∷ [])) Nil) (list_of ((trees.Return (at 0 1 28) (trees.ArrayAccess (at 0 1 35) (trees.Variable (at 0 1 35) (codes "a")) (trees.Truth (at 0 1 37) true))) ∷ []))) ∷ []))) ∷ [])) ∷ []

-- class A { int m(A a) { return a[0]; } }
abbrev pub t23_no_array : List Tree
t23_no_array = (list_of ((trees.Class (at 0 1 7) (codes "A") Nil (list_of ((trees.Method (at 0 1 15) false (codes "m") (trees.Signature (at 0 1 15) (trees.PrimitiveType (at 0 1 11) Int) (list_of ((trees.Parameter (at 0 1 19) (trees.NamedType (at 0 1 17) (codes "A")) (codes "a")) ∷ [])) Nil) (list_of ((trees.Return (at 0 1 24) (trees.ArrayAccess (at 0 1 31) (trees.Variable (at 0 1 31) (codes "a")) (trees.Number (at 0 1 33) 0))) ∷ []))) ∷ []))) ∷ [])) ∷ []

-- class A { void m() { n(); } }
abbrev pub t24_unknown : List Tree
t24_unknown = (list_of ((trees.Class (at 0 1 7) (codes "A") Nil (list_of ((trees.Method (at 0 1 16) false (codes "m") (trees.Signature (at 0 1 16) (trees.PrimitiveType (at 0 1 16) Void) Nil Nil) (list_of ((trees.ExpressionStatement (at 0 1 22) (trees.Call (at 0 1 22) (codes "n") Nil)) ∷ []))) ∷ []))) ∷ [])) ∷ []

-- class A { void m(int x) { m(); } }
abbrev pub t24_number : List Tree
t24_number = (list_of ((trees.Class (at 0 1 7) (codes "A") Nil (list_of ((trees.Method (at 0 1 16) false (codes "m") (trees.Signature (at 0 1 16) (trees.PrimitiveType (at 0 1 16) Void) (list_of ((trees.Parameter (at 0 1 22) (trees.PrimitiveType (at 0 1 18) Int) (codes "x")) ∷ [])) Nil) (list_of ((trees.ExpressionStatement (at 0 1 27) (trees.Call (at 0 1 27) (codes "m") Nil)) ∷ []))) ∷ []))) ∷ [])) ∷ []

-- class A { void m(A a) { a.m(1); } }
abbrev pub t24_type : List Tree
t24_type = (list_of ((trees.Class (at 0 1 7) (codes "A") Nil (list_of ((trees.Method (at 0 1 16) false (codes "m") (trees.Signature (at 0 1 16) (trees.PrimitiveType (at 0 1 16) Void) (list_of ((trees.Parameter (at 0 1 20) (trees.NamedType (at 0 1 18) (codes "A")) (codes "a")) ∷ [])) Nil) (list_of ((trees.ExpressionStatement (at 0 1 25) (trees.MethodCall (at 0 1 25) (trees.Variable (at 0 1 25) (codes "a")) (codes "m") (list_of ((trees.Number (at 0 1 29) 1) ∷ [])))) ∷ []))) ∷ []))) ∷ [])) ∷ []

-- class A { void n() { } void m() { A.n(); } }
abbrev pub t24_static : List Tree
t24_static = (list_of ((trees.Class (at 0 1 7) (codes "A") Nil (list_of ((trees.Method (at 0 1 16) false (codes "n") (trees.Signature (at 0 1 16) (trees.PrimitiveType (at 0 1 16) Void) Nil Nil) Nil) ∷ (trees.Method (at 0 1 29) false (codes "m") (trees.Signature (at 0 1 29) (trees.PrimitiveType (at 0 1 29) Void) Nil Nil) (list_of ((trees.ExpressionStatement (at 0 1 35) (trees.MethodCall (at 0 1 35) (trees.Variable (at 0 1 35) (codes "A")) (codes "n") Nil)) ∷ []))) ∷ []))) ∷ [])) ∷ []

-- class A { void m(int x) { x.m(1); } }
abbrev pub t24_int : List Tree
t24_int = (list_of ((trees.Class (at 0 1 7) (codes "A") Nil (list_of ((trees.Method (at 0 1 16) false (codes "m") (trees.Signature (at 0 1 16) (trees.PrimitiveType (at 0 1 16) Void) (list_of ((trees.Parameter (at 0 1 22) (trees.PrimitiveType (at 0 1 18) Int) (codes "x")) ∷ [])) Nil) (list_of ((trees.ExpressionStatement (at 0 1 27) (trees.MethodCall (at 0 1 27) (trees.Variable (at 0 1 27) (codes "x")) (codes "m") (list_of ((trees.Number (at 0 1 31) 1) ∷ [])))) ∷ []))) ∷ []))) ∷ [])) ∷ []

-- class A { static int n() { return 1; } static class B { int m(A a) { return n() + A.n() + a.n(); } } int p(A a) { return 1; } int q() { return p(null) + p(new C()) + this.p(this); } } class C extends A { }
abbrev pub t24_fine : List Tree
t24_fine = (list_of ((trees.Class (at 0 1 7) (codes "A") Nil (list_of ((trees.Method (at 0 1 22) true (codes "n") (trees.Signature (at 0 1 22) (trees.PrimitiveType (at 0 1 18) Int) Nil Nil) (list_of ((trees.Return (at 0 1 28) (trees.Number (at 0 1 35) 1)) ∷ []))) ∷ (trees.Class (at 0 1 53) (codes "B") Nil (list_of ((trees.Method (at 0 1 61) false (codes "m") (trees.Signature (at 0 1 61) (trees.PrimitiveType (at 0 1 57) Int) (list_of ((trees.Parameter (at 0 1 65) (trees.NamedType (at 0 1 63) (codes "A")) (codes "a")) ∷ [])) Nil) (list_of ((trees.Return (at 0 1 70) (trees.Binary (at 0 1 77) Add (trees.Binary (at 0 1 77) Add (trees.Call (at 0 1 77) (codes "n") Nil) (trees.MethodCall (at 0 1 83) (trees.Variable (at 0 1 83) (codes "A")) (codes "n") Nil)) (trees.MethodCall (at 0 1 91) (trees.Variable (at 0 1 91) (codes "a")) (codes "n") Nil))) ∷ []))) ∷ []))) ∷ (trees.Method (at 0 1 106) false (codes "p") (trees.Signature (at 0 1 106) (trees.PrimitiveType (at 0 1 102) Int) (list_of ((trees.Parameter (at 0 1 110) (trees.NamedType (at 0 1 108) (codes "A")) (codes "a")) ∷ [])) Nil) (list_of ((trees.Return (at 0 1 115) (trees.Number (at 0 1 122) 1)) ∷ []))) ∷ (trees.Method (at 0 1 131) false (codes "q") (trees.Signature (at 0 1 131) (trees.PrimitiveType (at 0 1 127) Int) Nil Nil) (list_of ((trees.Return (at 0 1 137) (trees.Binary (at 0 1 144) Add (trees.Binary (at 0 1 144) Add (trees.Call (at 0 1 144) (codes "p") (list_of ((trees.Null (at 0 1 146)) ∷ []))) (trees.Call (at 0 1 154) (codes "p") (list_of ((trees.ObjectCreation (at 0 1 156) (trees.NamedType (at 0 1 160) (codes "C")) Nil) ∷ [])))) (trees.MethodCall (at 0 1 167) (trees.This (at 0 1 167)) (codes "p") (list_of ((trees.This (at 0 1 174)) ∷ []))))) ∷ []))) ∷ []))) ∷ (trees.Class (at 0 1 191) (codes "C") (trees.NamedType (at 0 1 201) (codes "A")) Nil) ∷ [])) ∷ []

-- class A { void m(HashSet<A> s) { s.add(1); } }
abbrev pub t25_add : List Tree
t25_add = (list_of ((trees.Class (at 0 1 7) (codes "A") Nil (list_of ((trees.Method (at 0 1 16) false (codes "m") (trees.Signature (at 0 1 16) (trees.PrimitiveType (at 0 1 16) Void) (list_of ((trees.Parameter (at 0 1 29) (trees.GenericType (at 0 1 18) (trees.NamedType (at 0 1 18) (codes "HashSet")) (trees.NamedType (at 0 1 26) (codes "A"))) (codes "s")) ∷ [])) Nil) (list_of ((trees.ExpressionStatement (at 0 1 34) (trees.MethodCall (at 0 1 34) (trees.Variable (at 0 1 34) (codes "s")) (codes "add") (list_of ((trees.Number (at 0 1 40) 1) ∷ [])))) ∷ []))) ∷ []))) ∷ [])) ∷ []

-- class A { void m(HashSet<A> s) { s.removeFirst(); } }
abbrev pub t25_first : List Tree
t25_first = (list_of ((trees.Class (at 0 1 7) (codes "A") Nil (list_of ((trees.Method (at 0 1 16) false (codes "m") (trees.Signature (at 0 1 16) (trees.PrimitiveType (at 0 1 16) Void) (list_of ((trees.Parameter (at 0 1 29) (trees.GenericType (at 0 1 18) (trees.NamedType (at 0 1 18) (codes "HashSet")) (trees.NamedType (at 0 1 26) (codes "A"))) (codes "s")) ∷ [])) Nil) (list_of ((trees.ExpressionStatement (at 0 1 34) (trees.MethodCall (at 0 1 34) (trees.Variable (at 0 1 34) (codes "s")) (codes "removeFirst") Nil)) ∷ []))) ∷ []))) ∷ [])) ∷ []

-- class A { boolean m(HashSet<A> s) { return s.contains(s); } }
abbrev pub t25_contains : List Tree
t25_contains = (list_of ((trees.Class (at 0 1 7) (codes "A") Nil (list_of ((trees.Method (at 0 1 19) false (codes "m") (trees.Signature (at 0 1 19) (trees.PrimitiveType (at 0 1 11) Boolean) (list_of ((trees.Parameter (at 0 1 32) (trees.GenericType (at 0 1 21) (trees.NamedType (at 0 1 21) (codes "HashSet")) (trees.NamedType (at 0 1 29) (codes "A"))) (codes "s")) ∷ [])) Nil) (list_of ((trees.Return (at 0 1 37) (trees.MethodCall (at 0 1 44) (trees.Variable (at 0 1 44) (codes "s")) (codes "contains") (list_of ((trees.Variable (at 0 1 55) (codes "s")) ∷ [])))) ∷ []))) ∷ []))) ∷ [])) ∷ []

-- class A { void m(HashSet<A> s) { s.clear(); } }
abbrev pub t25_clear : List Tree
t25_clear = (list_of ((trees.Class (at 0 1 7) (codes "A") Nil (list_of ((trees.Method (at 0 1 16) false (codes "m") (trees.Signature (at 0 1 16) (trees.PrimitiveType (at 0 1 16) Void) (list_of ((trees.Parameter (at 0 1 29) (trees.GenericType (at 0 1 18) (trees.NamedType (at 0 1 18) (codes "HashSet")) (trees.NamedType (at 0 1 26) (codes "A"))) (codes "s")) ∷ [])) Nil) (list_of ((trees.ExpressionStatement (at 0 1 34) (trees.MethodCall (at 0 1 34) (trees.Variable (at 0 1 34) (codes "s")) (codes "clear") Nil)) ∷ []))) ∷ []))) ∷ [])) ∷ []

-- class A { void m() { new LinkedList<>().add(this); } }
abbrev pub t25_diamond : List Tree
t25_diamond = (list_of ((trees.Class (at 0 1 7) (codes "A") Nil (list_of ((trees.Method (at 0 1 16) false (codes "m") (trees.Signature (at 0 1 16) (trees.PrimitiveType (at 0 1 16) Void) Nil Nil) (list_of ((trees.ExpressionStatement (at 0 1 22) (trees.MethodCall (at 0 1 22) (trees.ObjectCreation (at 0 1 22) (trees.DiamondType (at 0 1 26) (trees.NamedType (at 0 1 26) (codes "LinkedList"))) Nil) (codes "add") (list_of ((trees.This (at 0 1 45)) ∷ [])))) ∷ []))) ∷ []))) ∷ [])) ∷ []

-- class A { void m(HashSet<A> s, LinkedList<int[]> l) { s.add(this); s.add(null); s.remove(new int[1]); l.add(l.removeFirst()); if (s.isEmpty() && l.contains(null) && l.size() == 1) ; } }
abbrev pub t25_fine : List Tree
t25_fine = (list_of ((trees.Class (at 0 1 7) (codes "A") Nil (list_of ((trees.Method (at 0 1 16) false (codes "m") (trees.Signature (at 0 1 16) (trees.PrimitiveType (at 0 1 16) Void) (list_of ((trees.Parameter (at 0 1 29) (trees.GenericType (at 0 1 18) (trees.NamedType (at 0 1 18) (codes "HashSet")) (trees.NamedType (at 0 1 26) (codes "A"))) (codes "s")) ∷ (trees.Parameter (at 0 1 50) (trees.GenericType (at 0 1 32) (trees.NamedType (at 0 1 32) (codes "LinkedList")) (trees.ArrayType (at 0 1 43) (trees.PrimitiveType (at 0 1 43) Int))) (codes "l")) ∷ [])) Nil) (list_of ((trees.ExpressionStatement (at 0 1 55) (trees.MethodCall (at 0 1 55) (trees.Variable (at 0 1 55) (codes "s")) (codes "add") (list_of ((trees.This (at 0 1 61)) ∷ [])))) ∷ (trees.ExpressionStatement (at 0 1 68) (trees.MethodCall (at 0 1 68) (trees.Variable (at 0 1 68) (codes "s")) (codes "add") (list_of ((trees.Null (at 0 1 74)) ∷ [])))) ∷ (trees.ExpressionStatement (at 0 1 81) (trees.MethodCall (at 0 1 81) (trees.Variable (at 0 1 81) (codes "s")) (codes "remove") (list_of ((trees.ArrayCreation (at 0 1 90) (trees.PrimitiveType (at 0 1 94) Int) (trees.Number (at 0 1 98) 1)) ∷ [])))) ∷ (trees.ExpressionStatement (at 0 1 103) (trees.MethodCall (at 0 1 103) (trees.Variable (at 0 1 103) (codes "l")) (codes "add") (list_of ((trees.MethodCall (at 0 1 109) (trees.Variable (at 0 1 109) (codes "l")) (codes "removeFirst") Nil) ∷ [])))) ∷ (trees.IfThen (at 0 1 127) (trees.Binary (at 0 1 131) And (trees.Binary (at 0 1 131) And (trees.MethodCall (at 0 1 131) (trees.Variable (at 0 1 131) (codes "s")) (codes "isEmpty") Nil) (trees.MethodCall (at 0 1 146) (trees.Variable (at 0 1 146) (codes "l")) (codes "contains") (list_of ((trees.Null (at 0 1 157)) ∷ [])))) (trees.Binary (at 0 1 166) Equal (trees.MethodCall (at 0 1 166) (trees.Variable (at 0 1 166) (codes "l")) (codes "size") Nil) (trees.Number (at 0 1 178) 1))) (trees.Empty (at 0 1 181))) ∷ []))) ∷ []))) ∷ [])) ∷ []

-- class A { void m() { new A(1); } }
abbrev pub t26_number : List Tree
t26_number = (list_of ((trees.Class (at 0 1 7) (codes "A") Nil (list_of ((trees.Method (at 0 1 16) false (codes "m") (trees.Signature (at 0 1 16) (trees.PrimitiveType (at 0 1 16) Void) Nil Nil) (list_of ((trees.ExpressionStatement (at 0 1 22) (trees.ObjectCreation (at 0 1 22) (trees.NamedType (at 0 1 26) (codes "A")) (list_of ((trees.Number (at 0 1 28) 1) ∷ [])))) ∷ []))) ∷ []))) ∷ [])) ∷ []

-- class A { A(int x) { } void m() { new A(true); } }
abbrev pub t26_type : List Tree
t26_type = (list_of ((trees.Class (at 0 1 7) (codes "A") Nil (list_of ((trees.Constructor (at 0 1 11) (list_of ((trees.Parameter (at 0 1 17) (trees.PrimitiveType (at 0 1 13) Int) (codes "x")) ∷ [])) Nil Nil) ∷ (trees.Method (at 0 1 29) false (codes "m") (trees.Signature (at 0 1 29) (trees.PrimitiveType (at 0 1 29) Void) Nil Nil) (list_of ((trees.ExpressionStatement (at 0 1 35) (trees.ObjectCreation (at 0 1 35) (trees.NamedType (at 0 1 39) (codes "A")) (list_of ((trees.Truth (at 0 1 41) true) ∷ [])))) ∷ []))) ∷ []))) ∷ [])) ∷ []

-- class A { void m() { new HashSet<A>(1); } }
abbrev pub t26_collection : List Tree
t26_collection = (list_of ((trees.Class (at 0 1 7) (codes "A") Nil (list_of ((trees.Method (at 0 1 16) false (codes "m") (trees.Signature (at 0 1 16) (trees.PrimitiveType (at 0 1 16) Void) Nil Nil) (list_of ((trees.ExpressionStatement (at 0 1 22) (trees.ObjectCreation (at 0 1 22) (trees.GenericType (at 0 1 26) (trees.NamedType (at 0 1 26) (codes "HashSet")) (trees.NamedType (at 0 1 34) (codes "A"))) (list_of ((trees.Number (at 0 1 37) 1) ∷ [])))) ∷ []))) ∷ []))) ∷ [])) ∷ []

-- class A { void m() { new A<>(); } }
abbrev pub t26_diamond : List Tree
t26_diamond = (list_of ((trees.Class (at 0 1 7) (codes "A") Nil (list_of ((trees.Method (at 0 1 16) false (codes "m") (trees.Signature (at 0 1 16) (trees.PrimitiveType (at 0 1 16) Void) Nil Nil) (list_of ((trees.ExpressionStatement (at 0 1 22) (trees.ObjectCreation (at 0 1 22) (trees.DiamondType (at 0 1 26) (trees.NamedType (at 0 1 26) (codes "A"))) Nil)) ∷ []))) ∷ []))) ∷ [])) ∷ []

-- class A { A(int x) { } void m() { new A(1); new B(); HashSet<A> s = new HashSet<>(); s = new HashSet<A>(); } } class B { }
abbrev pub t26_fine : List Tree
t26_fine = (list_of ((trees.Class (at 0 1 7) (codes "A") Nil (list_of ((trees.Constructor (at 0 1 11) (list_of ((trees.Parameter (at 0 1 17) (trees.PrimitiveType (at 0 1 13) Int) (codes "x")) ∷ [])) Nil Nil) ∷ (trees.Method (at 0 1 29) false (codes "m") (trees.Signature (at 0 1 29) (trees.PrimitiveType (at 0 1 29) Void) Nil Nil) (list_of ((trees.ExpressionStatement (at 0 1 35) (trees.ObjectCreation (at 0 1 35) (trees.NamedType (at 0 1 39) (codes "A")) (list_of ((trees.Number (at 0 1 41) 1) ∷ [])))) ∷ (trees.ExpressionStatement (at 0 1 45) (trees.ObjectCreation (at 0 1 45) (trees.NamedType (at 0 1 49) (codes "B")) Nil)) ∷ (trees.Local (at 0 1 54) (trees.GenericType (at 0 1 54) (trees.NamedType (at 0 1 54) (codes "HashSet")) (trees.NamedType (at 0 1 62) (codes "A"))) (list_of ((trees.Declarator (at 0 1 65) (codes "s") (trees.ObjectCreation (at 0 1 69) (trees.DiamondType (at 0 1 73) (trees.NamedType (at 0 1 73) (codes "HashSet"))) Nil)) ∷ []))) ∷ (trees.ExpressionStatement (at 0 1 86) (trees.Assignment (at 0 1 86) (trees.Variable (at 0 1 86) (codes "s")) (trees.ObjectCreation (at 0 1 90) (trees.GenericType (at 0 1 94) (trees.NamedType (at 0 1 94) (codes "HashSet")) (trees.NamedType (at 0 1 102) (codes "A"))) Nil))) ∷ []))) ∷ []))) ∷ (trees.Class (at 0 1 118) (codes "B") Nil Nil) ∷ [])) ∷ []

-- class A { void m() { int[] a = new int[true]; } }
abbrev pub t27 : List Tree
t27 = (list_of ((trees.Class (at 0 1 7) (codes "A") Nil (list_of ((trees.Method (at 0 1 16) false (codes "m") (trees.Signature (at 0 1 16) (trees.PrimitiveType (at 0 1 16) Void) Nil Nil) (list_of ((trees.Local (at 0 1 22) (trees.ArrayType (at 0 1 22) (trees.PrimitiveType (at 0 1 22) Int)) (list_of ((trees.Declarator (at 0 1 28) (codes "a") (trees.ArrayCreation (at 0 1 32) (trees.PrimitiveType (at 0 1 36) Int) (trees.Truth (at 0 1 40) true))) ∷ []))) ∷ []))) ∷ []))) ∷ [])) ∷ []

-- class A { void m() { while (1) { x = 2; } } }
abbrev pub t28_while : List Tree
t28_while = (list_of ((trees.Class (at 0 1 7) (codes "A") Nil (list_of ((trees.Method (at 0 1 16) false (codes "m") (trees.Signature (at 0 1 16) (trees.PrimitiveType (at 0 1 16) Void) Nil Nil) (list_of ((trees.While (at 0 1 22) (trees.Number (at 0 1 29) 1) (trees.Block (at 0 1 32) (list_of ((trees.ExpressionStatement (at 0 1 34) (trees.Assignment (at 0 1 34) (trees.Variable (at 0 1 34) (codes "x")) (trees.Number (at 0 1 38) 2))) ∷ [])))) ∷ []))) ∷ []))) ∷ [])) ∷ []

-- class A { void m() { if (null) ; else break; } }
abbrev pub t28_if : List Tree
t28_if = (list_of ((trees.Class (at 0 1 7) (codes "A") Nil (list_of ((trees.Method (at 0 1 16) false (codes "m") (trees.Signature (at 0 1 16) (trees.PrimitiveType (at 0 1 16) Void) Nil Nil) (list_of ((trees.IfElse (at 0 1 22) (trees.Null (at 0 1 26)) (trees.Empty (at 0 1 32)) (trees.Break (at 0 1 39))) ∷ []))) ∷ []))) ∷ [])) ∷ []

-- class A { void m() { do ; while (1); } }
abbrev pub t28_do : List Tree
t28_do = (list_of ((trees.Class (at 0 1 7) (codes "A") Nil (list_of ((trees.Method (at 0 1 16) false (codes "m") (trees.Signature (at 0 1 16) (trees.PrimitiveType (at 0 1 16) Void) Nil Nil) (list_of ((trees.Do (at 0 1 22) (trees.Empty (at 0 1 25)) (trees.Number (at 0 1 34) 1)) ∷ []))) ∷ []))) ∷ [])) ∷ []

-- class A { void m() { for (int i = 0; i; i++) ; } }
abbrev pub t28_for : List Tree
t28_for = (list_of ((trees.Class (at 0 1 7) (codes "A") Nil (list_of ((trees.Method (at 0 1 16) false (codes "m") (trees.Signature (at 0 1 16) (trees.PrimitiveType (at 0 1 16) Void) Nil Nil) (list_of ((trees.For (at 0 1 22) (list_of ((trees.Local (at 0 1 27) (trees.PrimitiveType (at 0 1 27) Int) (list_of ((trees.Declarator (at 0 1 31) (codes "i") (trees.Number (at 0 1 35) 0)) ∷ []))) ∷ [])) (trees.Variable (at 0 1 38) (codes "i")) (list_of ((trees.Step (at 0 1 41) IncrementBehind (trees.Variable (at 0 1 41) (codes "i"))) ∷ [])) (trees.Empty (at 0 1 46))) ∷ []))) ∷ []))) ∷ [])) ∷ []

-- class A { ¶//@ requires 1;¶void m() { } }
abbrev pub t28_contract : List Tree
t28_contract = (list_of ((trees.Class (at 0 1 7) (codes "A") Nil (list_of ((trees.Method (at 0 3 6) false (codes "m") (trees.Signature (at 0 3 6) (trees.PrimitiveType (at 0 3 6) Void) Nil (list_of ((trees.Requires (at 0 2 1) (trees.Number (at 0 2 14) 1)) ∷ []))) Nil) ∷ []))) ∷ [])) ∷ []

-- class A { ¶//@ requires x == 1;¶//@ ensures true;¶void m(int x) { while (x < 1) x++; do x--; while (x > 1); for (;;) break; if (x == 1) ; } }
abbrev pub t28_fine : List Tree
t28_fine = (list_of ((trees.Class (at 0 1 7) (codes "A") Nil (list_of ((trees.Method (at 0 4 6) false (codes "m") (trees.Signature (at 0 4 6) (trees.PrimitiveType (at 0 4 6) Void) (list_of ((trees.Parameter (at 0 4 12) (trees.PrimitiveType (at 0 4 8) Int) (codes "x")) ∷ [])) (list_of ((trees.Requires (at 0 2 1) (trees.Binary (at 0 2 14) Equal (trees.Variable (at 0 2 14) (codes "x")) (trees.Number (at 0 2 19) 1))) ∷ (trees.Ensures (at 0 3 1) (trees.Truth (at 0 3 13) true)) ∷ []))) (list_of ((trees.While (at 0 4 17) (trees.Binary (at 0 4 24) Less (trees.Variable (at 0 4 24) (codes "x")) (trees.Number (at 0 4 28) 1)) (trees.ExpressionStatement (at 0 4 31) (trees.Step (at 0 4 31) IncrementBehind (trees.Variable (at 0 4 31) (codes "x"))))) ∷ (trees.Do (at 0 4 36) (trees.ExpressionStatement (at 0 4 39) (trees.Step (at 0 4 39) DecrementBehind (trees.Variable (at 0 4 39) (codes "x")))) (trees.Binary (at 0 4 51) Greater (trees.Variable (at 0 4 51) (codes "x")) (trees.Number (at 0 4 55) 1))) ∷ (trees.For (at 0 4 59) Nil Nil Nil (trees.Break (at 0 4 68))) ∷ (trees.IfThen (at 0 4 75) (trees.Binary (at 0 4 79) Equal (trees.Variable (at 0 4 79) (codes "x")) (trees.Number (at 0 4 84) 1)) (trees.Empty (at 0 4 87))) ∷ []))) ∷ []))) ∷ [])) ∷ []

-- class A { void m() { int x = true; } }
abbrev pub t29 : List Tree
t29 = (list_of ((trees.Class (at 0 1 7) (codes "A") Nil (list_of ((trees.Method (at 0 1 16) false (codes "m") (trees.Signature (at 0 1 16) (trees.PrimitiveType (at 0 1 16) Void) Nil Nil) (list_of ((trees.Local (at 0 1 22) (trees.PrimitiveType (at 0 1 22) Int) (list_of ((trees.Declarator (at 0 1 26) (codes "x") (trees.Truth (at 0 1 30) true)) ∷ []))) ∷ []))) ∷ []))) ∷ [])) ∷ []

-- class A { void m() { A a = new B(), b = null; int x = x; } } class B extends A { }
abbrev pub t29_fine : List Tree
t29_fine = (list_of ((trees.Class (at 0 1 7) (codes "A") Nil (list_of ((trees.Method (at 0 1 16) false (codes "m") (trees.Signature (at 0 1 16) (trees.PrimitiveType (at 0 1 16) Void) Nil Nil) (list_of ((trees.Local (at 0 1 22) (trees.NamedType (at 0 1 22) (codes "A")) (list_of ((trees.Declarator (at 0 1 24) (codes "a") (trees.ObjectCreation (at 0 1 28) (trees.NamedType (at 0 1 32) (codes "B")) Nil)) ∷ (trees.Declarator (at 0 1 37) (codes "b") (trees.Null (at 0 1 41))) ∷ []))) ∷ (trees.Local (at 0 1 47) (trees.PrimitiveType (at 0 1 47) Int) (list_of ((trees.Declarator (at 0 1 51) (codes "x") (trees.Variable (at 0 1 55) (codes "x"))) ∷ []))) ∷ []))) ∷ []))) ∷ (trees.Class (at 0 1 68) (codes "B") (trees.NamedType (at 0 1 78) (codes "A")) Nil) ∷ [])) ∷ []

-- class A { void m() { return 1; } }
abbrev pub t30_void : List Tree
t30_void = (list_of ((trees.Class (at 0 1 7) (codes "A") Nil (list_of ((trees.Method (at 0 1 16) false (codes "m") (trees.Signature (at 0 1 16) (trees.PrimitiveType (at 0 1 16) Void) Nil Nil) (list_of ((trees.Return (at 0 1 22) (trees.Number (at 0 1 29) 1)) ∷ []))) ∷ []))) ∷ [])) ∷ []

-- class A { int m() { return; } }
abbrev pub t30_none : List Tree
t30_none = (list_of ((trees.Class (at 0 1 7) (codes "A") Nil (list_of ((trees.Method (at 0 1 15) false (codes "m") (trees.Signature (at 0 1 15) (trees.PrimitiveType (at 0 1 11) Int) Nil Nil) (list_of ((trees.Return (at 0 1 21) Nil) ∷ []))) ∷ []))) ∷ [])) ∷ []

-- class A { int m() { return true; } }
abbrev pub t30_type : List Tree
t30_type = (list_of ((trees.Class (at 0 1 7) (codes "A") Nil (list_of ((trees.Method (at 0 1 15) false (codes "m") (trees.Signature (at 0 1 15) (trees.PrimitiveType (at 0 1 11) Int) Nil Nil) (list_of ((trees.Return (at 0 1 21) (trees.Truth (at 0 1 28) true)) ∷ []))) ∷ []))) ∷ [])) ∷ []

-- class A { A() { return this; } }
abbrev pub t30_constructor : List Tree
t30_constructor = (list_of ((trees.Class (at 0 1 7) (codes "A") Nil (list_of ((trees.Constructor (at 0 1 11) Nil Nil (list_of ((trees.Return (at 0 1 17) (trees.This (at 0 1 24))) ∷ []))) ∷ []))) ∷ [])) ∷ []

-- class A { A() { return; } int m() { return 1; } A n() { return null; } void p() { return; } }
abbrev pub t30_fine : List Tree
t30_fine = (list_of ((trees.Class (at 0 1 7) (codes "A") Nil (list_of ((trees.Constructor (at 0 1 11) Nil Nil (list_of ((trees.Return (at 0 1 17) Nil) ∷ []))) ∷ (trees.Method (at 0 1 31) false (codes "m") (trees.Signature (at 0 1 31) (trees.PrimitiveType (at 0 1 27) Int) Nil Nil) (list_of ((trees.Return (at 0 1 37) (trees.Number (at 0 1 44) 1)) ∷ []))) ∷ (trees.Method (at 0 1 51) false (codes "n") (trees.Signature (at 0 1 51) (trees.NamedType (at 0 1 49) (codes "A")) Nil Nil) (list_of ((trees.Return (at 0 1 57) (trees.Null (at 0 1 64))) ∷ []))) ∷ (trees.Method (at 0 1 77) false (codes "p") (trees.Signature (at 0 1 77) (trees.PrimitiveType (at 0 1 77) Void) Nil Nil) (list_of ((trees.Return (at 0 1 83) Nil) ∷ []))) ∷ []))) ∷ [])) ∷ []

-- class A { void m() { if (true) break; while (true) ; } }
abbrev pub t31 : List Tree
t31 = (list_of ((trees.Class (at 0 1 7) (codes "A") Nil (list_of ((trees.Method (at 0 1 16) false (codes "m") (trees.Signature (at 0 1 16) (trees.PrimitiveType (at 0 1 16) Void) Nil Nil) (list_of ((trees.IfThen (at 0 1 22) (trees.Truth (at 0 1 26) true) (trees.Break (at 0 1 32))) ∷ (trees.While (at 0 1 39) (trees.Truth (at 0 1 46) true) (trees.Empty (at 0 1 52))) ∷ []))) ∷ []))) ∷ [])) ∷ []

-- class A { void m() { for (;;) break; continue; } }
abbrev pub t31_continue : List Tree
t31_continue = (list_of ((trees.Class (at 0 1 7) (codes "A") Nil (list_of ((trees.Method (at 0 1 16) false (codes "m") (trees.Signature (at 0 1 16) (trees.PrimitiveType (at 0 1 16) Void) Nil Nil) (list_of ((trees.For (at 0 1 22) Nil Nil Nil (trees.Break (at 0 1 31))) ∷ (trees.Continue (at 0 1 38)) ∷ []))) ∷ []))) ∷ [])) ∷ []

-- class A { void m() { } int n() { return m() + 1; } }
abbrev pub t32 : List Tree
t32 = (list_of ((trees.Class (at 0 1 7) (codes "A") Nil (list_of ((trees.Method (at 0 1 16) false (codes "m") (trees.Signature (at 0 1 16) (trees.PrimitiveType (at 0 1 16) Void) Nil Nil) Nil) ∷ (trees.Method (at 0 1 28) false (codes "n") (trees.Signature (at 0 1 28) (trees.PrimitiveType (at 0 1 24) Int) Nil Nil) (list_of ((trees.Return (at 0 1 34) (trees.Binary (at 0 1 41) Add (trees.Call (at 0 1 41) (codes "m") Nil) (trees.Number (at 0 1 47) 1))) ∷ []))) ∷ []))) ∷ [])) ∷ []

-- class A { void m() { } void n(int x) { n(m()); } }
abbrev pub t32_argument : List Tree
t32_argument = (list_of ((trees.Class (at 0 1 7) (codes "A") Nil (list_of ((trees.Method (at 0 1 16) false (codes "m") (trees.Signature (at 0 1 16) (trees.PrimitiveType (at 0 1 16) Void) Nil Nil) Nil) ∷ (trees.Method (at 0 1 29) false (codes "n") (trees.Signature (at 0 1 29) (trees.PrimitiveType (at 0 1 29) Void) (list_of ((trees.Parameter (at 0 1 35) (trees.PrimitiveType (at 0 1 31) Int) (codes "x")) ∷ [])) Nil) (list_of ((trees.ExpressionStatement (at 0 1 40) (trees.Call (at 0 1 40) (codes "n") (list_of ((trees.Call (at 0 1 42) (codes "m") Nil) ∷ [])))) ∷ []))) ∷ []))) ∷ [])) ∷ []

-- class A { void m() { } void n() { int x = m(); } }
abbrev pub t32_initial : List Tree
t32_initial = (list_of ((trees.Class (at 0 1 7) (codes "A") Nil (list_of ((trees.Method (at 0 1 16) false (codes "m") (trees.Signature (at 0 1 16) (trees.PrimitiveType (at 0 1 16) Void) Nil Nil) Nil) ∷ (trees.Method (at 0 1 29) false (codes "n") (trees.Signature (at 0 1 29) (trees.PrimitiveType (at 0 1 29) Void) Nil Nil) (list_of ((trees.Local (at 0 1 35) (trees.PrimitiveType (at 0 1 35) Int) (list_of ((trees.Declarator (at 0 1 39) (codes "x") (trees.Call (at 0 1 43) (codes "m") Nil)) ∷ []))) ∷ []))) ∷ []))) ∷ [])) ∷ []

-- class A { void m() { } void n() { m(); for (m(); ; m(), m()) this.m(); } }
abbrev pub t32_fine : List Tree
t32_fine = (list_of ((trees.Class (at 0 1 7) (codes "A") Nil (list_of ((trees.Method (at 0 1 16) false (codes "m") (trees.Signature (at 0 1 16) (trees.PrimitiveType (at 0 1 16) Void) Nil Nil) Nil) ∷ (trees.Method (at 0 1 29) false (codes "n") (trees.Signature (at 0 1 29) (trees.PrimitiveType (at 0 1 29) Void) Nil Nil) (list_of ((trees.ExpressionStatement (at 0 1 35) (trees.Call (at 0 1 35) (codes "m") Nil)) ∷ (trees.For (at 0 1 40) (list_of ((trees.ExpressionStatement (at 0 1 45) (trees.Call (at 0 1 45) (codes "m") Nil)) ∷ [])) Nil (list_of ((trees.Call (at 0 1 52) (codes "m") Nil) ∷ (trees.Call (at 0 1 57) (codes "m") Nil) ∷ [])) (trees.ExpressionStatement (at 0 1 62) (trees.MethodCall (at 0 1 62) (trees.This (at 0 1 62)) (codes "m") Nil))) ∷ []))) ∷ []))) ∷ [])) ∷ []

-- class A { int m() { return super.m(); } }
abbrev pub t33 : List Tree
t33 = (list_of ((trees.Class (at 0 1 7) (codes "A") Nil (list_of ((trees.Method (at 0 1 15) false (codes "m") (trees.Signature (at 0 1 15) (trees.PrimitiveType (at 0 1 11) Int) Nil Nil) (list_of ((trees.Return (at 0 1 21) (trees.SuperCall (at 0 1 28) (codes "m") Nil)) ∷ []))) ∷ []))) ∷ [])) ∷ []

-- class A { static int m() { return 1; } } class B extends A { int n() { return super.m(); } }
abbrev pub t33_static : List Tree
t33_static = (list_of ((trees.Class (at 0 1 7) (codes "A") Nil (list_of ((trees.Method (at 0 1 22) true (codes "m") (trees.Signature (at 0 1 22) (trees.PrimitiveType (at 0 1 18) Int) Nil Nil) (list_of ((trees.Return (at 0 1 28) (trees.Number (at 0 1 35) 1)) ∷ []))) ∷ []))) ∷ (trees.Class (at 0 1 48) (codes "B") (trees.NamedType (at 0 1 58) (codes "A")) (list_of ((trees.Method (at 0 1 66) false (codes "n") (trees.Signature (at 0 1 66) (trees.PrimitiveType (at 0 1 62) Int) Nil Nil) (list_of ((trees.Return (at 0 1 72) (trees.SuperCall (at 0 1 79) (codes "m") Nil)) ∷ []))) ∷ []))) ∷ [])) ∷ []

-- class A { int m() { return 1; } } class B extends A { } class C extends B { int m() { return super.m(); } }
abbrev pub t33_fine : List Tree
t33_fine = (list_of ((trees.Class (at 0 1 7) (codes "A") Nil (list_of ((trees.Method (at 0 1 15) false (codes "m") (trees.Signature (at 0 1 15) (trees.PrimitiveType (at 0 1 11) Int) Nil Nil) (list_of ((trees.Return (at 0 1 21) (trees.Number (at 0 1 28) 1)) ∷ []))) ∷ []))) ∷ (trees.Class (at 0 1 41) (codes "B") (trees.NamedType (at 0 1 51) (codes "A")) Nil) ∷ (trees.Class (at 0 1 63) (codes "C") (trees.NamedType (at 0 1 73) (codes "B")) (list_of ((trees.Method (at 0 1 81) false (codes "m") (trees.Signature (at 0 1 81) (trees.PrimitiveType (at 0 1 77) Int) Nil Nil) (list_of ((trees.Return (at 0 1 87) (trees.SuperCall (at 0 1 94) (codes "m") Nil)) ∷ []))) ∷ []))) ∷ [])) ∷ []

-- class A { A(int x) { } } class B extends A { }
abbrev pub t34_class : List Tree
t34_class = (list_of ((trees.Class (at 0 1 7) (codes "A") Nil (list_of ((trees.Constructor (at 0 1 11) (list_of ((trees.Parameter (at 0 1 17) (trees.PrimitiveType (at 0 1 13) Int) (codes "x")) ∷ [])) Nil Nil) ∷ []))) ∷ (trees.Class (at 0 1 32) (codes "B") (trees.NamedType (at 0 1 42) (codes "A")) Nil) ∷ [])) ∷ []

-- class A { A(int x) { } } class B extends A { B() { } }
abbrev pub t34_absent : List Tree
t34_absent = (list_of ((trees.Class (at 0 1 7) (codes "A") Nil (list_of ((trees.Constructor (at 0 1 11) (list_of ((trees.Parameter (at 0 1 17) (trees.PrimitiveType (at 0 1 13) Int) (codes "x")) ∷ [])) Nil Nil) ∷ []))) ∷ (trees.Class (at 0 1 32) (codes "B") (trees.NamedType (at 0 1 42) (codes "A")) (list_of ((trees.Constructor (at 0 1 46) Nil Nil Nil) ∷ []))) ∷ [])) ∷ []

-- class A { A(int x) { } } class B extends A { B() { super(true); } }
abbrev pub t34_type : List Tree
t34_type = (list_of ((trees.Class (at 0 1 7) (codes "A") Nil (list_of ((trees.Constructor (at 0 1 11) (list_of ((trees.Parameter (at 0 1 17) (trees.PrimitiveType (at 0 1 13) Int) (codes "x")) ∷ [])) Nil Nil) ∷ []))) ∷ (trees.Class (at 0 1 32) (codes "B") (trees.NamedType (at 0 1 42) (codes "A")) (list_of ((trees.Constructor (at 0 1 46) Nil (trees.ConstructorCall (at 0 1 52) (list_of ((trees.Truth (at 0 1 58) true) ∷ []))) Nil) ∷ []))) ∷ [])) ∷ []

-- class A { A() { super(1); } }
abbrev pub t34_none : List Tree
t34_none = (list_of ((trees.Class (at 0 1 7) (codes "A") Nil (list_of ((trees.Constructor (at 0 1 11) Nil (trees.ConstructorCall (at 0 1 17) (list_of ((trees.Number (at 0 1 23) 1) ∷ []))) Nil) ∷ []))) ∷ [])) ∷ []

-- class A { A(int x) { super(); } } class B extends A { B() { super(1); } } class C extends B { }
abbrev pub t34_fine : List Tree
t34_fine = (list_of ((trees.Class (at 0 1 7) (codes "A") Nil (list_of ((trees.Constructor (at 0 1 11) (list_of ((trees.Parameter (at 0 1 17) (trees.PrimitiveType (at 0 1 13) Int) (codes "x")) ∷ [])) (trees.ConstructorCall (at 0 1 22) Nil) Nil) ∷ []))) ∷ (trees.Class (at 0 1 41) (codes "B") (trees.NamedType (at 0 1 51) (codes "A")) (list_of ((trees.Constructor (at 0 1 55) Nil (trees.ConstructorCall (at 0 1 61) (list_of ((trees.Number (at 0 1 67) 1) ∷ []))) Nil) ∷ []))) ∷ (trees.Class (at 0 1 81) (codes "C") (trees.NamedType (at 0 1 91) (codes "B")) Nil) ∷ [])) ∷ []

-- class A { int x = true; }
abbrev pub t35 : List Tree
t35 = (list_of ((trees.Class (at 0 1 7) (codes "A") Nil (list_of ((trees.Field (at 0 1 11) false false (trees.PrimitiveType (at 0 1 11) Int) (list_of ((trees.Declarator (at 0 1 15) (codes "x") (trees.Truth (at 0 1 19) true)) ∷ []))) ∷ []))) ∷ [])) ∷ []

-- class A { static final int K = true; }
abbrev pub t35_constant : List Tree
t35_constant = (list_of ((trees.Class (at 0 1 7) (codes "A") Nil (list_of ((trees.Field (at 0 1 24) true true (trees.PrimitiveType (at 0 1 24) Int) (list_of ((trees.Declarator (at 0 1 28) (codes "K") (trees.Truth (at 0 1 32) true)) ∷ []))) ∷ []))) ∷ [])) ∷ []

-- class A { A a = new B(), b; int x = y + K, y = x; static final int K = 1; } class B extends A { B() { super(); } }
abbrev pub t35_fine : List Tree
t35_fine = (list_of ((trees.Class (at 0 1 7) (codes "A") Nil (list_of ((trees.Field (at 0 1 11) false false (trees.NamedType (at 0 1 11) (codes "A")) (list_of ((trees.Declarator (at 0 1 13) (codes "a") (trees.ObjectCreation (at 0 1 17) (trees.NamedType (at 0 1 21) (codes "B")) Nil)) ∷ (trees.Declarator (at 0 1 26) (codes "b") Nil) ∷ []))) ∷ (trees.Field (at 0 1 29) false false (trees.PrimitiveType (at 0 1 29) Int) (list_of ((trees.Declarator (at 0 1 33) (codes "x") (trees.Binary (at 0 1 37) Add (trees.Variable (at 0 1 37) (codes "y")) (trees.Variable (at 0 1 41) (codes "K")))) ∷ (trees.Declarator (at 0 1 44) (codes "y") (trees.Variable (at 0 1 48) (codes "x"))) ∷ []))) ∷ (trees.Field (at 0 1 64) true true (trees.PrimitiveType (at 0 1 64) Int) (list_of ((trees.Declarator (at 0 1 68) (codes "K") (trees.Number (at 0 1 72) 1)) ∷ []))) ∷ []))) ∷ (trees.Class (at 0 1 83) (codes "B") (trees.NamedType (at 0 1 93) (codes "A")) (list_of ((trees.Constructor (at 0 1 97) Nil (trees.ConstructorCall (at 0 1 103) Nil) Nil) ∷ []))) ∷ [])) ∷ []

-- class A { static final int K; }
abbrev pub t36_absent : List Tree
t36_absent = (list_of ((trees.Class (at 0 1 7) (codes "A") Nil (list_of ((trees.Field (at 0 1 24) true true (trees.PrimitiveType (at 0 1 24) Int) (list_of ((trees.Declarator (at 0 1 28) (codes "K") Nil) ∷ []))) ∷ []))) ∷ [])) ∷ []

-- class A { static final int K = L; static final int L = 1; }
abbrev pub t36_later : List Tree
t36_later = (list_of ((trees.Class (at 0 1 7) (codes "A") Nil (list_of ((trees.Field (at 0 1 24) true true (trees.PrimitiveType (at 0 1 24) Int) (list_of ((trees.Declarator (at 0 1 28) (codes "K") (trees.Variable (at 0 1 32) (codes "L"))) ∷ []))) ∷ (trees.Field (at 0 1 48) true true (trees.PrimitiveType (at 0 1 48) Int) (list_of ((trees.Declarator (at 0 1 52) (codes "L") (trees.Number (at 0 1 56) 1)) ∷ []))) ∷ []))) ∷ [])) ∷ []

-- class A { static int m() { return 1; } static final int K = m(); }
abbrev pub t36_call : List Tree
t36_call = (list_of ((trees.Class (at 0 1 7) (codes "A") Nil (list_of ((trees.Method (at 0 1 22) true (codes "m") (trees.Signature (at 0 1 22) (trees.PrimitiveType (at 0 1 18) Int) Nil Nil) (list_of ((trees.Return (at 0 1 28) (trees.Number (at 0 1 35) 1)) ∷ []))) ∷ (trees.Field (at 0 1 53) true true (trees.PrimitiveType (at 0 1 53) Int) (list_of ((trees.Declarator (at 0 1 57) (codes "K") (trees.Call (at 0 1 61) (codes "m") Nil)) ∷ []))) ∷ []))) ∷ [])) ∷ []

-- class A { static final int K = 1 / (2 - 1 - L.L); } class L { static final int L = 1; }
abbrev pub t36_divisor : List Tree
t36_divisor = (list_of ((trees.Class (at 0 1 7) (codes "A") Nil (list_of ((trees.Field (at 0 1 24) true true (trees.PrimitiveType (at 0 1 24) Int) (list_of ((trees.Declarator (at 0 1 28) (codes "K") (trees.Binary (at 0 1 32) Divide (trees.Number (at 0 1 32) 1) (trees.Binary (at 0 1 37) Subtract (trees.Binary (at 0 1 37) Subtract (trees.Number (at 0 1 37) 2) (trees.Number (at 0 1 41) 1)) (trees.FieldAccess (at 0 1 45) (trees.Variable (at 0 1 45) (codes "L")) (codes "L"))))) ∷ []))) ∷ []))) ∷ (trees.Class (at 0 1 59) (codes "L") Nil (list_of ((trees.Field (at 0 1 76) true true (trees.PrimitiveType (at 0 1 76) Int) (list_of ((trees.Declarator (at 0 1 80) (codes "L") (trees.Number (at 0 1 84) 1)) ∷ []))) ∷ []))) ∷ [])) ∷ []

-- class A { static final int Z = 0; static final int K = 7 % Z; }
abbrev pub t36_zero : List Tree
t36_zero = (list_of ((trees.Class (at 0 1 7) (codes "A") Nil (list_of ((trees.Field (at 0 1 24) true true (trees.PrimitiveType (at 0 1 24) Int) (list_of ((trees.Declarator (at 0 1 28) (codes "Z") (trees.Number (at 0 1 32) 0)) ∷ []))) ∷ (trees.Field (at 0 1 48) true true (trees.PrimitiveType (at 0 1 48) Int) (list_of ((trees.Declarator (at 0 1 52) (codes "K") (trees.Binary (at 0 1 56) Remainder (trees.Number (at 0 1 56) 7) (trees.Variable (at 0 1 60) (codes "Z")))) ∷ []))) ∷ []))) ∷ [])) ∷ []

-- class A { static final boolean K = null instanceof A; }
abbrev pub t36_instance : List Tree
t36_instance = (list_of ((trees.Class (at 0 1 7) (codes "A") Nil (list_of ((trees.Field (at 0 1 24) true true (trees.PrimitiveType (at 0 1 24) Boolean) (list_of ((trees.Declarator (at 0 1 32) (codes "K") (trees.InstanceOf (at 0 1 36) (trees.Null (at 0 1 36)) (trees.NamedType (at 0 1 52) (codes "A")))) ∷ []))) ∷ []))) ∷ [])) ∷ []

-- class A { static final boolean B = false && 1 / 0 == 0; static final int K = -2147483648 / -1 + (B ? 1 / 0 : 2) << 33; static class N { static final int M = K >>> 1 % ~K; } static final int L = (int) N.M + A.K; static final boolean D = null == null; }
abbrev pub t36_fine : List Tree
t36_fine = (list_of ((trees.Class (at 0 1 7) (codes "A") Nil (list_of ((trees.Field (at 0 1 24) true true (trees.PrimitiveType (at 0 1 24) Boolean) (list_of ((trees.Declarator (at 0 1 32) (codes "B") (trees.Binary (at 0 1 36) And (trees.Truth (at 0 1 36) false) (trees.Binary (at 0 1 45) Equal (trees.Binary (at 0 1 45) Divide (trees.Number (at 0 1 45) 1) (trees.Number (at 0 1 49) 0)) (trees.Number (at 0 1 54) 0)))) ∷ []))) ∷ (trees.Field (at 0 1 70) true true (trees.PrimitiveType (at 0 1 70) Int) (list_of ((trees.Declarator (at 0 1 74) (codes "K") (trees.Binary (at 0 1 78) ShiftLeft (trees.Binary (at 0 1 78) Add (trees.Binary (at 0 1 78) Divide (trees.Unary (at 0 1 78) Minus (trees.Number (at 0 1 79) 2147483648)) (trees.Unary (at 0 1 92) Minus (trees.Number (at 0 1 93) 1))) (trees.Conditional (at 0 1 98) (trees.Variable (at 0 1 98) (codes "B")) (trees.Binary (at 0 1 102) Divide (trees.Number (at 0 1 102) 1) (trees.Number (at 0 1 106) 0)) (trees.Number (at 0 1 110) 2))) (trees.Number (at 0 1 116) 33))) ∷ []))) ∷ (trees.Class (at 0 1 133) (codes "N") Nil (list_of ((trees.Field (at 0 1 150) true true (trees.PrimitiveType (at 0 1 150) Int) (list_of ((trees.Declarator (at 0 1 154) (codes "M") (trees.Binary (at 0 1 158) ShiftRightUnsigned (trees.Variable (at 0 1 158) (codes "K")) (trees.Binary (at 0 1 164) Remainder (trees.Number (at 0 1 164) 1) (trees.Unary (at 0 1 168) Complement (trees.Variable (at 0 1 169) (codes "K")))))) ∷ []))) ∷ []))) ∷ (trees.Field (at 0 1 187) true true (trees.PrimitiveType (at 0 1 187) Int) (list_of ((trees.Declarator (at 0 1 191) (codes "L") (trees.Binary (at 0 1 195) Add (trees.Cast (at 0 1 195) (trees.PrimitiveType (at 0 1 196) Int) (trees.FieldAccess (at 0 1 201) (trees.Variable (at 0 1 201) (codes "N")) (codes "M"))) (trees.FieldAccess (at 0 1 207) (trees.Variable (at 0 1 207) (codes "A")) (codes "K")))) ∷ []))) ∷ (trees.Field (at 0 1 225) true true (trees.PrimitiveType (at 0 1 225) Boolean) (list_of ((trees.Declarator (at 0 1 233) (codes "D") (trees.Binary (at 0 1 237) Equal (trees.Null (at 0 1 237)) (trees.Null (at 0 1 245)))) ∷ []))) ∷ []))) ∷ [])) ∷ []

-- class A { static int k = 1; }
abbrev pub t37_static : List Tree
t37_static = (list_of ((trees.Class (at 0 1 7) (codes "A") Nil (list_of ((trees.Field (at 0 1 18) true false (trees.PrimitiveType (at 0 1 18) Int) (list_of ((trees.Declarator (at 0 1 22) (codes "k") (trees.Number (at 0 1 26) 1)) ∷ []))) ∷ []))) ∷ [])) ∷ []

-- class A { static final A K = null; }
abbrev pub t37_type : List Tree
t37_type = (list_of ((trees.Class (at 0 1 7) (codes "A") Nil (list_of ((trees.Field (at 0 1 24) true true (trees.NamedType (at 0 1 24) (codes "A")) (list_of ((trees.Declarator (at 0 1 26) (codes "K") (trees.Null (at 0 1 30))) ∷ []))) ∷ []))) ∷ [])) ∷ []

-- class A { ¶//@ requires \result == 1;¶int m() { return 1; } }
abbrev pub t38_requires : List Tree
t38_requires = (list_of ((trees.Class (at 0 1 7) (codes "A") Nil (list_of ((trees.Method (at 0 3 5) false (codes "m") (trees.Signature (at 0 3 5) (trees.PrimitiveType (at 0 3 1) Int) Nil (list_of ((trees.Requires (at 0 2 1) (trees.Binary (at 0 2 14) Equal (trees.Result (at 0 2 14)) (trees.Number (at 0 2 25) 1))) ∷ []))) (list_of ((trees.Return (at 0 3 11) (trees.Number (at 0 3 18) 1)) ∷ []))) ∷ []))) ∷ [])) ∷ []

-- class A { ¶//@ ensures \result == 1;¶void m() { } }
abbrev pub t38_void : List Tree
t38_void = (list_of ((trees.Class (at 0 1 7) (codes "A") Nil (list_of ((trees.Method (at 0 3 6) false (codes "m") (trees.Signature (at 0 3 6) (trees.PrimitiveType (at 0 3 6) Void) Nil (list_of ((trees.Ensures (at 0 2 1) (trees.Binary (at 0 2 13) Equal (trees.Result (at 0 2 13)) (trees.Number (at 0 2 24) 1))) ∷ []))) Nil) ∷ []))) ∷ [])) ∷ []

-- class A { int v; ¶//@ ensures \old(\old(v)) == 1;¶void m() { } }
abbrev pub t38_old : List Tree
t38_old = (list_of ((trees.Class (at 0 1 7) (codes "A") Nil (list_of ((trees.Field (at 0 1 11) false false (trees.PrimitiveType (at 0 1 11) Int) (list_of ((trees.Declarator (at 0 1 15) (codes "v") Nil) ∷ []))) ∷ (trees.Method (at 0 3 6) false (codes "m") (trees.Signature (at 0 3 6) (trees.PrimitiveType (at 0 3 6) Void) Nil (list_of ((trees.Ensures (at 0 2 1) (trees.Binary (at 0 2 13) Equal (trees.Old (at 0 2 13) (trees.Old (at 0 2 18) (trees.Variable (at 0 2 23) (codes "v")))) (trees.Number (at 0 2 30) 1))) ∷ []))) Nil) ∷ []))) ∷ [])) ∷ []

-- class A { int v; ¶//@ requires \old(v) == 1;¶void m() { } }
abbrev pub t38_old_requires : List Tree
t38_old_requires = (list_of ((trees.Class (at 0 1 7) (codes "A") Nil (list_of ((trees.Field (at 0 1 11) false false (trees.PrimitiveType (at 0 1 11) Int) (list_of ((trees.Declarator (at 0 1 15) (codes "v") Nil) ∷ []))) ∷ (trees.Method (at 0 3 6) false (codes "m") (trees.Signature (at 0 3 6) (trees.PrimitiveType (at 0 3 6) Void) Nil (list_of ((trees.Requires (at 0 2 1) (trees.Binary (at 0 2 14) Equal (trees.Old (at 0 2 14) (trees.Variable (at 0 2 19) (codes "v"))) (trees.Number (at 0 2 25) 1))) ∷ []))) Nil) ∷ []))) ∷ [])) ∷ []

-- class A { int v; ¶//@ ensures \old(v) == \result;¶int m() { return v++; } }
abbrev pub t38_fine : List Tree
t38_fine = (list_of ((trees.Class (at 0 1 7) (codes "A") Nil (list_of ((trees.Field (at 0 1 11) false false (trees.PrimitiveType (at 0 1 11) Int) (list_of ((trees.Declarator (at 0 1 15) (codes "v") Nil) ∷ []))) ∷ (trees.Method (at 0 3 5) false (codes "m") (trees.Signature (at 0 3 5) (trees.PrimitiveType (at 0 3 1) Int) Nil (list_of ((trees.Ensures (at 0 2 1) (trees.Binary (at 0 2 13) Equal (trees.Old (at 0 2 13) (trees.Variable (at 0 2 18) (codes "v"))) (trees.Result (at 0 2 24)))) ∷ []))) (list_of ((trees.Return (at 0 3 11) (trees.Step (at 0 3 18) IncrementBehind (trees.Variable (at 0 3 18) (codes "v")))) ∷ []))) ∷ []))) ∷ [])) ∷ []

-- class A { int v; ¶//@ requires (v = 1) == 1;¶void m() { } }
abbrev pub t39_write : List Tree
t39_write = (list_of ((trees.Class (at 0 1 7) (codes "A") Nil (list_of ((trees.Field (at 0 1 11) false false (trees.PrimitiveType (at 0 1 11) Int) (list_of ((trees.Declarator (at 0 1 15) (codes "v") Nil) ∷ []))) ∷ (trees.Method (at 0 3 6) false (codes "m") (trees.Signature (at 0 3 6) (trees.PrimitiveType (at 0 3 6) Void) Nil (list_of ((trees.Requires (at 0 2 1) (trees.Binary (at 0 2 14) Equal (trees.Assignment (at 0 2 15) (trees.Variable (at 0 2 15) (codes "v")) (trees.Number (at 0 2 19) 1)) (trees.Number (at 0 2 25) 1))) ∷ []))) Nil) ∷ []))) ∷ [])) ∷ []

-- class A { int v; ¶//@ ensures v++ == 1;¶void m() { } }
abbrev pub t39_step : List Tree
t39_step = (list_of ((trees.Class (at 0 1 7) (codes "A") Nil (list_of ((trees.Field (at 0 1 11) false false (trees.PrimitiveType (at 0 1 11) Int) (list_of ((trees.Declarator (at 0 1 15) (codes "v") Nil) ∷ []))) ∷ (trees.Method (at 0 3 6) false (codes "m") (trees.Signature (at 0 3 6) (trees.PrimitiveType (at 0 3 6) Void) Nil (list_of ((trees.Ensures (at 0 2 1) (trees.Binary (at 0 2 13) Equal (trees.Step (at 0 2 13) IncrementBehind (trees.Variable (at 0 2 13) (codes "v"))) (trees.Number (at 0 2 20) 1))) ∷ []))) Nil) ∷ []))) ∷ [])) ∷ []

-- class A { ¶//@ ensures new A() != null;¶void m() { } }
abbrev pub t39_new : List Tree
t39_new = (list_of ((trees.Class (at 0 1 7) (codes "A") Nil (list_of ((trees.Method (at 0 3 6) false (codes "m") (trees.Signature (at 0 3 6) (trees.PrimitiveType (at 0 3 6) Void) Nil (list_of ((trees.Ensures (at 0 2 1) (trees.Binary (at 0 2 13) NotEqual (trees.ObjectCreation (at 0 2 13) (trees.NamedType (at 0 2 17) (codes "A")) Nil) (trees.Null (at 0 2 24)))) ∷ []))) Nil) ∷ []))) ∷ [])) ∷ []

-- class A { ¶//@ ensures new int[1].length == 1;¶void m() { } }
abbrev pub t39_array : List Tree
t39_array = (list_of ((trees.Class (at 0 1 7) (codes "A") Nil (list_of ((trees.Method (at 0 3 6) false (codes "m") (trees.Signature (at 0 3 6) (trees.PrimitiveType (at 0 3 6) Void) Nil (list_of ((trees.Ensures (at 0 2 1) (trees.Binary (at 0 2 13) Equal (trees.FieldAccess (at 0 2 13) (trees.ArrayCreation (at 0 2 13) (trees.PrimitiveType (at 0 2 17) Int) (trees.Number (at 0 2 21) 1)) (codes "length")) (trees.Number (at 0 2 34) 1))) ∷ []))) Nil) ∷ []))) ∷ [])) ∷ []

-- class A { ¶//@ requires true;¶static void m() { } }
abbrev pub t40 : List Tree
t40 = (list_of ((trees.Class (at 0 1 7) (codes "A") Nil (list_of ((trees.Method (at 0 3 13) true (codes "m") (trees.Signature (at 0 3 13) (trees.PrimitiveType (at 0 3 13) Void) Nil (list_of ((trees.Requires (at 0 2 1) (trees.Truth (at 0 2 14) true)) ∷ []))) Nil) ∷ []))) ∷ [])) ∷ []

-- class A { int x; ¶//@ requires x == y && x > 0;¶void m(int x, int y) { } }
abbrev pub t40_parameter : List Tree
t40_parameter = (list_of ((trees.Class (at 0 1 7) (codes "A") Nil (list_of ((trees.Field (at 0 1 11) false false (trees.PrimitiveType (at 0 1 11) Int) (list_of ((trees.Declarator (at 0 1 15) (codes "x") Nil) ∷ []))) ∷ (trees.Method (at 0 3 6) false (codes "m") (trees.Signature (at 0 3 6) (trees.PrimitiveType (at 0 3 6) Void) (list_of ((trees.Parameter (at 0 3 12) (trees.PrimitiveType (at 0 3 8) Int) (codes "x")) ∷ (trees.Parameter (at 0 3 19) (trees.PrimitiveType (at 0 3 15) Int) (codes "y")) ∷ [])) (list_of ((trees.Requires (at 0 2 1) (trees.Binary (at 0 2 14) And (trees.Binary (at 0 2 14) Equal (trees.Variable (at 0 2 14) (codes "x")) (trees.Variable (at 0 2 19) (codes "y"))) (trees.Binary (at 0 2 24) Greater (trees.Variable (at 0 2 24) (codes "x")) (trees.Number (at 0 2 28) 0)))) ∷ []))) Nil) ∷ []))) ∷ [])) ∷ []

-- class A { int m() { return (1 + true) + (!2); } }
abbrev pub t_place : List Tree
t_place = (list_of ((trees.Class (at 0 1 7) (codes "A") Nil (list_of ((trees.Method (at 0 1 15) false (codes "m") (trees.Signature (at 0 1 15) (trees.PrimitiveType (at 0 1 11) Int) Nil Nil) (list_of ((trees.Return (at 0 1 21) (trees.Binary (at 0 1 28) Add (trees.Binary (at 0 1 29) Add (trees.Number (at 0 1 29) 1) (trees.Truth (at 0 1 33) true)) (trees.Unary (at 0 1 42) Not (trees.Number (at 0 1 43) 2)))) ∷ []))) ∷ []))) ∷ [])) ∷ []

-- class A { static final int K = 1; void m() { K = true; } }
abbrev pub t_rule : List Tree
t_rule = (list_of ((trees.Class (at 0 1 7) (codes "A") Nil (list_of ((trees.Field (at 0 1 24) true true (trees.PrimitiveType (at 0 1 24) Int) (list_of ((trees.Declarator (at 0 1 28) (codes "K") (trees.Number (at 0 1 32) 1)) ∷ []))) ∷ (trees.Method (at 0 1 40) false (codes "m") (trees.Signature (at 0 1 40) (trees.PrimitiveType (at 0 1 40) Void) Nil Nil) (list_of ((trees.ExpressionStatement (at 0 1 46) (trees.Assignment (at 0 1 46) (trees.Variable (at 0 1 46) (codes "K")) (trees.Truth (at 0 1 50) true))) ∷ []))) ∷ []))) ∷ [])) ∷ []

-- class B { int x = 1; } @@ class A { int x = true; } @@ class C { int x = true; }
abbrev pub t_files : List Tree
t_files = (list_of ((trees.Class (at 0 1 7) (codes "B") Nil (list_of ((trees.Field (at 0 1 11) false false (trees.PrimitiveType (at 0 1 11) Int) (list_of ((trees.Declarator (at 0 1 15) (codes "x") (trees.Number (at 0 1 19) 1)) ∷ []))) ∷ []))) ∷ [])) ∷ (list_of ((trees.Class (at 1 1 7) (codes "A") Nil (list_of ((trees.Field (at 1 1 11) false false (trees.PrimitiveType (at 1 1 11) Int) (list_of ((trees.Declarator (at 1 1 15) (codes "x") (trees.Truth (at 1 1 19) true)) ∷ []))) ∷ []))) ∷ [])) ∷ (list_of ((trees.Class (at 2 1 7) (codes "C") Nil (list_of ((trees.Field (at 2 1 11) false false (trees.PrimitiveType (at 2 1 11) Int) (list_of ((trees.Declarator (at 2 1 15) (codes "x") (trees.Truth (at 2 1 19) true)) ∷ []))) ∷ []))) ∷ [])) ∷ []

-- import java.util.*;¶class Node {¶  Node left;¶  Node right;¶}¶class Tree {¶  Node root;¶  boolean repOk() {¶    if (root == null) return false;¶    HashSet<Node> seen = new HashSet<Node>();¶    LinkedList<Node> work = new LinkedList<Node>();¶    seen.add(root);¶    work.add(root);¶    while (!work.isEmpty()) {¶      Node n = work.removeFirst();¶      if (n.left != null) {¶        if (!seen.add(n.left)) return false;¶        work.add(n.left);¶      }¶      if (n.right != null) {¶        if (!seen.add(n.right)) return false;¶        work.add(n.right);¶      }¶    }¶    return seen.size() == 3;¶  }¶}
abbrev pub demo : List Tree
demo = (list_of ((trees.Class (at 0 2 7) (codes "Node") Nil (list_of ((trees.Field (at 0 3 3) false false (trees.NamedType (at 0 3 3) (codes "Node")) (list_of ((trees.Declarator (at 0 3 8) (codes "left") Nil) ∷ []))) ∷ (trees.Field (at 0 4 3) false false (trees.NamedType (at 0 4 3) (codes "Node")) (list_of ((trees.Declarator (at 0 4 8) (codes "right") Nil) ∷ []))) ∷ []))) ∷ (trees.Class (at 0 6 7) (codes "Tree") Nil (list_of ((trees.Field (at 0 7 3) false false (trees.NamedType (at 0 7 3) (codes "Node")) (list_of ((trees.Declarator (at 0 7 8) (codes "root") Nil) ∷ []))) ∷ (trees.Method (at 0 8 11) false (codes "repOk") (trees.Signature (at 0 8 11) (trees.PrimitiveType (at 0 8 3) Boolean) Nil Nil) (list_of ((trees.IfThen (at 0 9 5) (trees.Binary (at 0 9 9) Equal (trees.Variable (at 0 9 9) (codes "root")) (trees.Null (at 0 9 17))) (trees.Return (at 0 9 23) (trees.Truth (at 0 9 30) false))) ∷ (trees.Local (at 0 10 5) (trees.GenericType (at 0 10 5) (trees.NamedType (at 0 10 5) (codes "HashSet")) (trees.NamedType (at 0 10 13) (codes "Node"))) (list_of ((trees.Declarator (at 0 10 19) (codes "seen") (trees.ObjectCreation (at 0 10 26) (trees.GenericType (at 0 10 30) (trees.NamedType (at 0 10 30) (codes "HashSet")) (trees.NamedType (at 0 10 38) (codes "Node"))) Nil)) ∷ []))) ∷ (trees.Local (at 0 11 5) (trees.GenericType (at 0 11 5) (trees.NamedType (at 0 11 5) (codes "LinkedList")) (trees.NamedType (at 0 11 16) (codes "Node"))) (list_of ((trees.Declarator (at 0 11 22) (codes "work") (trees.ObjectCreation (at 0 11 29) (trees.GenericType (at 0 11 33) (trees.NamedType (at 0 11 33) (codes "LinkedList")) (trees.NamedType (at 0 11 44) (codes "Node"))) Nil)) ∷ []))) ∷ (trees.ExpressionStatement (at 0 12 5) (trees.MethodCall (at 0 12 5) (trees.Variable (at 0 12 5) (codes "seen")) (codes "add") (list_of ((trees.Variable (at 0 12 14) (codes "root")) ∷ [])))) ∷ (trees.ExpressionStatement (at 0 13 5) (trees.MethodCall (at 0 13 5) (trees.Variable (at 0 13 5) (codes "work")) (codes "add") (list_of ((trees.Variable (at 0 13 14) (codes "root")) ∷ [])))) ∷ (trees.While (at 0 14 5) (trees.Unary (at 0 14 12) Not (trees.MethodCall (at 0 14 13) (trees.Variable (at 0 14 13) (codes "work")) (codes "isEmpty") Nil)) (trees.Block (at 0 14 29) (list_of ((trees.Local (at 0 15 7) (trees.NamedType (at 0 15 7) (codes "Node")) (list_of ((trees.Declarator (at 0 15 12) (codes "n") (trees.MethodCall (at 0 15 16) (trees.Variable (at 0 15 16) (codes "work")) (codes "removeFirst") Nil)) ∷ []))) ∷ (trees.IfThen (at 0 16 7) (trees.Binary (at 0 16 11) NotEqual (trees.FieldAccess (at 0 16 11) (trees.Variable (at 0 16 11) (codes "n")) (codes "left")) (trees.Null (at 0 16 21))) (trees.Block (at 0 16 27) (list_of ((trees.IfThen (at 0 17 9) (trees.Unary (at 0 17 13) Not (trees.MethodCall (at 0 17 14) (trees.Variable (at 0 17 14) (codes "seen")) (codes "add") (list_of ((trees.FieldAccess (at 0 17 23) (trees.Variable (at 0 17 23) (codes "n")) (codes "left")) ∷ [])))) (trees.Return (at 0 17 32) (trees.Truth (at 0 17 39) false))) ∷ (trees.ExpressionStatement (at 0 18 9) (trees.MethodCall (at 0 18 9) (trees.Variable (at 0 18 9) (codes "work")) (codes "add") (list_of ((trees.FieldAccess (at 0 18 18) (trees.Variable (at 0 18 18) (codes "n")) (codes "left")) ∷ [])))) ∷ [])))) ∷ (trees.IfThen (at 0 20 7) (trees.Binary (at 0 20 11) NotEqual (trees.FieldAccess (at 0 20 11) (trees.Variable (at 0 20 11) (codes "n")) (codes "right")) (trees.Null (at 0 20 22))) (trees.Block (at 0 20 28) (list_of ((trees.IfThen (at 0 21 9) (trees.Unary (at 0 21 13) Not (trees.MethodCall (at 0 21 14) (trees.Variable (at 0 21 14) (codes "seen")) (codes "add") (list_of ((trees.FieldAccess (at 0 21 23) (trees.Variable (at 0 21 23) (codes "n")) (codes "right")) ∷ [])))) (trees.Return (at 0 21 33) (trees.Truth (at 0 21 40) false))) ∷ (trees.ExpressionStatement (at 0 22 9) (trees.MethodCall (at 0 22 9) (trees.Variable (at 0 22 9) (codes "work")) (codes "add") (list_of ((trees.FieldAccess (at 0 22 18) (trees.Variable (at 0 22 18) (codes "n")) (codes "right")) ∷ [])))) ∷ [])))) ∷ [])))) ∷ (trees.Return (at 0 25 5) (trees.Binary (at 0 25 12) Equal (trees.MethodCall (at 0 25 12) (trees.Variable (at 0 25 12) (codes "seen")) (codes "size") Nil) (trees.Number (at 0 25 27) 3))) ∷ []))) ∷ []))) ∷ [])) ∷ []

-- class A { void m(Foo<A> x) { } } class B extends A { void m(Foo<B> x) { } }
abbrev pub c5_argument : List Tree
c5_argument = (list_of ((trees.Class (at 0 1 7) (codes "A") Nil (list_of ((trees.Method (at 0 1 16) false (codes "m") (trees.Signature (at 0 1 16) (trees.PrimitiveType (at 0 1 16) Void) (list_of ((trees.Parameter (at 0 1 25) (trees.GenericType (at 0 1 18) (trees.NamedType (at 0 1 18) (codes "Foo")) (trees.NamedType (at 0 1 22) (codes "A"))) (codes "x")) ∷ [])) Nil) Nil) ∷ []))) ∷ (trees.Class (at 0 1 40) (codes "B") (trees.NamedType (at 0 1 50) (codes "A")) (list_of ((trees.Method (at 0 1 59) false (codes "m") (trees.Signature (at 0 1 59) (trees.PrimitiveType (at 0 1 59) Void) (list_of ((trees.Parameter (at 0 1 68) (trees.GenericType (at 0 1 61) (trees.NamedType (at 0 1 61) (codes "Foo")) (trees.NamedType (at 0 1 65) (codes "B"))) (codes "x")) ∷ [])) Nil) Nil) ∷ []))) ∷ [])) ∷ []

-- class A { void m(Foo<A> x) { } } class B extends A { void m(Bar<A> x) { } }
abbrev pub c5_head : List Tree
c5_head = (list_of ((trees.Class (at 0 1 7) (codes "A") Nil (list_of ((trees.Method (at 0 1 16) false (codes "m") (trees.Signature (at 0 1 16) (trees.PrimitiveType (at 0 1 16) Void) (list_of ((trees.Parameter (at 0 1 25) (trees.GenericType (at 0 1 18) (trees.NamedType (at 0 1 18) (codes "Foo")) (trees.NamedType (at 0 1 22) (codes "A"))) (codes "x")) ∷ [])) Nil) Nil) ∷ []))) ∷ (trees.Class (at 0 1 40) (codes "B") (trees.NamedType (at 0 1 50) (codes "A")) (list_of ((trees.Method (at 0 1 59) false (codes "m") (trees.Signature (at 0 1 59) (trees.PrimitiveType (at 0 1 59) Void) (list_of ((trees.Parameter (at 0 1 68) (trees.GenericType (at 0 1 61) (trees.NamedType (at 0 1 61) (codes "Bar")) (trees.NamedType (at 0 1 65) (codes "A"))) (codes "x")) ∷ [])) Nil) Nil) ∷ []))) ∷ [])) ∷ []

-- class A { void m(Foo x) { } } class B extends A { void m(Foo.Foo x) { } }
abbrev pub c5_spelled : List Tree
c5_spelled = (list_of ((trees.Class (at 0 1 7) (codes "A") Nil (list_of ((trees.Method (at 0 1 16) false (codes "m") (trees.Signature (at 0 1 16) (trees.PrimitiveType (at 0 1 16) Void) (list_of ((trees.Parameter (at 0 1 22) (trees.NamedType (at 0 1 18) (codes "Foo")) (codes "x")) ∷ [])) Nil) Nil) ∷ []))) ∷ (trees.Class (at 0 1 37) (codes "B") (trees.NamedType (at 0 1 47) (codes "A")) (list_of ((trees.Method (at 0 1 56) false (codes "m") (trees.Signature (at 0 1 56) (trees.PrimitiveType (at 0 1 56) Void) (list_of ((trees.Parameter (at 0 1 66) (trees.QualifiedType (at 0 1 58) (codes "Foo") (codes "Foo")) (codes "x")) ∷ [])) Nil) Nil) ∷ []))) ∷ [])) ∷ []

-- class A { Foo<A> m() { return null; } } class B extends A { Foo<A> m() { return null; } }
abbrev pub c7_fine_unknown : List Tree
c7_fine_unknown = (list_of ((trees.Class (at 0 1 7) (codes "A") Nil (list_of ((trees.Method (at 0 1 18) false (codes "m") (trees.Signature (at 0 1 18) (trees.GenericType (at 0 1 11) (trees.NamedType (at 0 1 11) (codes "Foo")) (trees.NamedType (at 0 1 15) (codes "A"))) Nil Nil) (list_of ((trees.Return (at 0 1 24) (trees.Null (at 0 1 31))) ∷ []))) ∷ []))) ∷ (trees.Class (at 0 1 47) (codes "B") (trees.NamedType (at 0 1 57) (codes "A")) (list_of ((trees.Method (at 0 1 68) false (codes "m") (trees.Signature (at 0 1 68) (trees.GenericType (at 0 1 61) (trees.NamedType (at 0 1 61) (codes "Foo")) (trees.NamedType (at 0 1 65) (codes "A"))) Nil Nil) (list_of ((trees.Return (at 0 1 74) (trees.Null (at 0 1 81))) ∷ []))) ∷ []))) ∷ [])) ∷ []

-- class A { static final boolean K = (A) null == null; }
abbrev pub t36_cast : List Tree
t36_cast = (list_of ((trees.Class (at 0 1 7) (codes "A") Nil (list_of ((trees.Field (at 0 1 24) true true (trees.PrimitiveType (at 0 1 24) Boolean) (list_of ((trees.Declarator (at 0 1 32) (codes "K") (trees.Binary (at 0 1 36) Equal (trees.Cast (at 0 1 36) (trees.NamedType (at 0 1 37) (codes "A")) (trees.Null (at 0 1 40))) (trees.Null (at 0 1 48)))) ∷ []))) ∷ []))) ∷ [])) ∷ []

-- class A { void m(boolean b, int x) {¶x = 1 * b;¶x = b / 1;¶x = 1 % b;¶x = b + 1;¶x = 1 - b;¶x = 1 << b;¶x = b >> 1;¶x = 1 >>> b;¶b = 1 < b;¶b = b > 1;¶b = 1 <= b;¶b = b >= 1;¶b = 1 == b;¶b = b != 1;¶x = 1 & b;¶b = b ^ 1;¶x = 1 | b;¶b = 1 && b;¶b = b || 1;¶x = !x;¶x = +b;¶x = -b;¶x = ~b;¶} }
abbrev pub each_operator : List Tree
each_operator = (list_of ((trees.Class (at 0 1 7) (codes "A") Nil (list_of ((trees.Method (at 0 1 16) false (codes "m") (trees.Signature (at 0 1 16) (trees.PrimitiveType (at 0 1 16) Void) (list_of ((trees.Parameter (at 0 1 26) (trees.PrimitiveType (at 0 1 18) Boolean) (codes "b")) ∷ (trees.Parameter (at 0 1 33) (trees.PrimitiveType (at 0 1 29) Int) (codes "x")) ∷ [])) Nil) (list_of ((trees.ExpressionStatement (at 0 2 1) (trees.Assignment (at 0 2 1) (trees.Variable (at 0 2 1) (codes "x")) (trees.Binary (at 0 2 5) Multiply (trees.Number (at 0 2 5) 1) (trees.Variable (at 0 2 9) (codes "b"))))) ∷ (trees.ExpressionStatement (at 0 3 1) (trees.Assignment (at 0 3 1) (trees.Variable (at 0 3 1) (codes "x")) (trees.Binary (at 0 3 5) Divide (trees.Variable (at 0 3 5) (codes "b")) (trees.Number (at 0 3 9) 1)))) ∷ (trees.ExpressionStatement (at 0 4 1) (trees.Assignment (at 0 4 1) (trees.Variable (at 0 4 1) (codes "x")) (trees.Binary (at 0 4 5) Remainder (trees.Number (at 0 4 5) 1) (trees.Variable (at 0 4 9) (codes "b"))))) ∷ (trees.ExpressionStatement (at 0 5 1) (trees.Assignment (at 0 5 1) (trees.Variable (at 0 5 1) (codes "x")) (trees.Binary (at 0 5 5) Add (trees.Variable (at 0 5 5) (codes "b")) (trees.Number (at 0 5 9) 1)))) ∷ (trees.ExpressionStatement (at 0 6 1) (trees.Assignment (at 0 6 1) (trees.Variable (at 0 6 1) (codes "x")) (trees.Binary (at 0 6 5) Subtract (trees.Number (at 0 6 5) 1) (trees.Variable (at 0 6 9) (codes "b"))))) ∷ (trees.ExpressionStatement (at 0 7 1) (trees.Assignment (at 0 7 1) (trees.Variable (at 0 7 1) (codes "x")) (trees.Binary (at 0 7 5) ShiftLeft (trees.Number (at 0 7 5) 1) (trees.Variable (at 0 7 10) (codes "b"))))) ∷ (trees.ExpressionStatement (at 0 8 1) (trees.Assignment (at 0 8 1) (trees.Variable (at 0 8 1) (codes "x")) (trees.Binary (at 0 8 5) ShiftRight (trees.Variable (at 0 8 5) (codes "b")) (trees.Number (at 0 8 10) 1)))) ∷ (trees.ExpressionStatement (at 0 9 1) (trees.Assignment (at 0 9 1) (trees.Variable (at 0 9 1) (codes "x")) (trees.Binary (at 0 9 5) ShiftRightUnsigned (trees.Number (at 0 9 5) 1) (trees.Variable (at 0 9 11) (codes "b"))))) ∷ (trees.ExpressionStatement (at 0 10 1) (trees.Assignment (at 0 10 1) (trees.Variable (at 0 10 1) (codes "b")) (trees.Binary (at 0 10 5) Less (trees.Number (at 0 10 5) 1) (trees.Variable (at 0 10 9) (codes "b"))))) ∷ (trees.ExpressionStatement (at 0 11 1) (trees.Assignment (at 0 11 1) (trees.Variable (at 0 11 1) (codes "b")) (trees.Binary (at 0 11 5) Greater (trees.Variable (at 0 11 5) (codes "b")) (trees.Number (at 0 11 9) 1)))) ∷ (trees.ExpressionStatement (at 0 12 1) (trees.Assignment (at 0 12 1) (trees.Variable (at 0 12 1) (codes "b")) (trees.Binary (at 0 12 5) LessOrEqual (trees.Number (at 0 12 5) 1) (trees.Variable (at 0 12 10) (codes "b"))))) ∷ (trees.ExpressionStatement (at 0 13 1) (trees.Assignment (at 0 13 1) (trees.Variable (at 0 13 1) (codes "b")) (trees.Binary (at 0 13 5) GreaterOrEqual (trees.Variable (at 0 13 5) (codes "b")) (trees.Number (at 0 13 10) 1)))) ∷ (trees.ExpressionStatement (at 0 14 1) (trees.Assignment (at 0 14 1) (trees.Variable (at 0 14 1) (codes "b")) (trees.Binary (at 0 14 5) Equal (trees.Number (at 0 14 5) 1) (trees.Variable (at 0 14 10) (codes "b"))))) ∷ (trees.ExpressionStatement (at 0 15 1) (trees.Assignment (at 0 15 1) (trees.Variable (at 0 15 1) (codes "b")) (trees.Binary (at 0 15 5) NotEqual (trees.Variable (at 0 15 5) (codes "b")) (trees.Number (at 0 15 10) 1)))) ∷ (trees.ExpressionStatement (at 0 16 1) (trees.Assignment (at 0 16 1) (trees.Variable (at 0 16 1) (codes "x")) (trees.Binary (at 0 16 5) BitAnd (trees.Number (at 0 16 5) 1) (trees.Variable (at 0 16 9) (codes "b"))))) ∷ (trees.ExpressionStatement (at 0 17 1) (trees.Assignment (at 0 17 1) (trees.Variable (at 0 17 1) (codes "b")) (trees.Binary (at 0 17 5) BitXor (trees.Variable (at 0 17 5) (codes "b")) (trees.Number (at 0 17 9) 1)))) ∷ (trees.ExpressionStatement (at 0 18 1) (trees.Assignment (at 0 18 1) (trees.Variable (at 0 18 1) (codes "x")) (trees.Binary (at 0 18 5) BitOr (trees.Number (at 0 18 5) 1) (trees.Variable (at 0 18 9) (codes "b"))))) ∷ (trees.ExpressionStatement (at 0 19 1) (trees.Assignment (at 0 19 1) (trees.Variable (at 0 19 1) (codes "b")) (trees.Binary (at 0 19 5) And (trees.Number (at 0 19 5) 1) (trees.Variable (at 0 19 10) (codes "b"))))) ∷ (trees.ExpressionStatement (at 0 20 1) (trees.Assignment (at 0 20 1) (trees.Variable (at 0 20 1) (codes "b")) (trees.Binary (at 0 20 5) Or (trees.Variable (at 0 20 5) (codes "b")) (trees.Number (at 0 20 10) 1)))) ∷ (trees.ExpressionStatement (at 0 21 1) (trees.Assignment (at 0 21 1) (trees.Variable (at 0 21 1) (codes "x")) (trees.Unary (at 0 21 5) Not (trees.Variable (at 0 21 6) (codes "x"))))) ∷ (trees.ExpressionStatement (at 0 22 1) (trees.Assignment (at 0 22 1) (trees.Variable (at 0 22 1) (codes "x")) (trees.Unary (at 0 22 5) Plus (trees.Variable (at 0 22 6) (codes "b"))))) ∷ (trees.ExpressionStatement (at 0 23 1) (trees.Assignment (at 0 23 1) (trees.Variable (at 0 23 1) (codes "x")) (trees.Unary (at 0 23 5) Minus (trees.Variable (at 0 23 6) (codes "b"))))) ∷ (trees.ExpressionStatement (at 0 24 1) (trees.Assignment (at 0 24 1) (trees.Variable (at 0 24 1) (codes "x")) (trees.Unary (at 0 24 5) Complement (trees.Variable (at 0 24 6) (codes "b"))))) ∷ []))) ∷ []))) ∷ [])) ∷ []

-- class A { void m(boolean b, int x, A a) {¶a = 1 * 1;¶a = 1 / 1;¶a = 1 % 1;¶a = 1 + 1;¶a = 1 - 1;¶a = 1 << 1;¶a = 1 >> 1;¶a = 1 >>> 1;¶a = 1 < 1;¶a = 1 > 1;¶a = 1 <= 1;¶a = 1 >= 1;¶a = 1 == 1;¶a = b != b;¶a = 1 & 1;¶a = b ^ b;¶a = 1 | 1;¶a = b && b;¶a = b || b;¶a = !b;¶a = +1;¶a = -1;¶a = ~1;¶x = 1 == 1;¶b = b & b;¶x = null == this;¶b = 1 ^ 1;¶b = +1;¶x = !b;¶} }
abbrev pub each_result : List Tree
each_result = (list_of ((trees.Class (at 0 1 7) (codes "A") Nil (list_of ((trees.Method (at 0 1 16) false (codes "m") (trees.Signature (at 0 1 16) (trees.PrimitiveType (at 0 1 16) Void) (list_of ((trees.Parameter (at 0 1 26) (trees.PrimitiveType (at 0 1 18) Boolean) (codes "b")) ∷ (trees.Parameter (at 0 1 33) (trees.PrimitiveType (at 0 1 29) Int) (codes "x")) ∷ (trees.Parameter (at 0 1 38) (trees.NamedType (at 0 1 36) (codes "A")) (codes "a")) ∷ [])) Nil) (list_of ((trees.ExpressionStatement (at 0 2 1) (trees.Assignment (at 0 2 1) (trees.Variable (at 0 2 1) (codes "a")) (trees.Binary (at 0 2 5) Multiply (trees.Number (at 0 2 5) 1) (trees.Number (at 0 2 9) 1)))) ∷ (trees.ExpressionStatement (at 0 3 1) (trees.Assignment (at 0 3 1) (trees.Variable (at 0 3 1) (codes "a")) (trees.Binary (at 0 3 5) Divide (trees.Number (at 0 3 5) 1) (trees.Number (at 0 3 9) 1)))) ∷ (trees.ExpressionStatement (at 0 4 1) (trees.Assignment (at 0 4 1) (trees.Variable (at 0 4 1) (codes "a")) (trees.Binary (at 0 4 5) Remainder (trees.Number (at 0 4 5) 1) (trees.Number (at 0 4 9) 1)))) ∷ (trees.ExpressionStatement (at 0 5 1) (trees.Assignment (at 0 5 1) (trees.Variable (at 0 5 1) (codes "a")) (trees.Binary (at 0 5 5) Add (trees.Number (at 0 5 5) 1) (trees.Number (at 0 5 9) 1)))) ∷ (trees.ExpressionStatement (at 0 6 1) (trees.Assignment (at 0 6 1) (trees.Variable (at 0 6 1) (codes "a")) (trees.Binary (at 0 6 5) Subtract (trees.Number (at 0 6 5) 1) (trees.Number (at 0 6 9) 1)))) ∷ (trees.ExpressionStatement (at 0 7 1) (trees.Assignment (at 0 7 1) (trees.Variable (at 0 7 1) (codes "a")) (trees.Binary (at 0 7 5) ShiftLeft (trees.Number (at 0 7 5) 1) (trees.Number (at 0 7 10) 1)))) ∷ (trees.ExpressionStatement (at 0 8 1) (trees.Assignment (at 0 8 1) (trees.Variable (at 0 8 1) (codes "a")) (trees.Binary (at 0 8 5) ShiftRight (trees.Number (at 0 8 5) 1) (trees.Number (at 0 8 10) 1)))) ∷ (trees.ExpressionStatement (at 0 9 1) (trees.Assignment (at 0 9 1) (trees.Variable (at 0 9 1) (codes "a")) (trees.Binary (at 0 9 5) ShiftRightUnsigned (trees.Number (at 0 9 5) 1) (trees.Number (at 0 9 11) 1)))) ∷ (trees.ExpressionStatement (at 0 10 1) (trees.Assignment (at 0 10 1) (trees.Variable (at 0 10 1) (codes "a")) (trees.Binary (at 0 10 5) Less (trees.Number (at 0 10 5) 1) (trees.Number (at 0 10 9) 1)))) ∷ (trees.ExpressionStatement (at 0 11 1) (trees.Assignment (at 0 11 1) (trees.Variable (at 0 11 1) (codes "a")) (trees.Binary (at 0 11 5) Greater (trees.Number (at 0 11 5) 1) (trees.Number (at 0 11 9) 1)))) ∷ (trees.ExpressionStatement (at 0 12 1) (trees.Assignment (at 0 12 1) (trees.Variable (at 0 12 1) (codes "a")) (trees.Binary (at 0 12 5) LessOrEqual (trees.Number (at 0 12 5) 1) (trees.Number (at 0 12 10) 1)))) ∷ (trees.ExpressionStatement (at 0 13 1) (trees.Assignment (at 0 13 1) (trees.Variable (at 0 13 1) (codes "a")) (trees.Binary (at 0 13 5) GreaterOrEqual (trees.Number (at 0 13 5) 1) (trees.Number (at 0 13 10) 1)))) ∷ (trees.ExpressionStatement (at 0 14 1) (trees.Assignment (at 0 14 1) (trees.Variable (at 0 14 1) (codes "a")) (trees.Binary (at 0 14 5) Equal (trees.Number (at 0 14 5) 1) (trees.Number (at 0 14 10) 1)))) ∷ (trees.ExpressionStatement (at 0 15 1) (trees.Assignment (at 0 15 1) (trees.Variable (at 0 15 1) (codes "a")) (trees.Binary (at 0 15 5) NotEqual (trees.Variable (at 0 15 5) (codes "b")) (trees.Variable (at 0 15 10) (codes "b"))))) ∷ (trees.ExpressionStatement (at 0 16 1) (trees.Assignment (at 0 16 1) (trees.Variable (at 0 16 1) (codes "a")) (trees.Binary (at 0 16 5) BitAnd (trees.Number (at 0 16 5) 1) (trees.Number (at 0 16 9) 1)))) ∷ (trees.ExpressionStatement (at 0 17 1) (trees.Assignment (at 0 17 1) (trees.Variable (at 0 17 1) (codes "a")) (trees.Binary (at 0 17 5) BitXor (trees.Variable (at 0 17 5) (codes "b")) (trees.Variable (at 0 17 9) (codes "b"))))) ∷ (trees.ExpressionStatement (at 0 18 1) (trees.Assignment (at 0 18 1) (trees.Variable (at 0 18 1) (codes "a")) (trees.Binary (at 0 18 5) BitOr (trees.Number (at 0 18 5) 1) (trees.Number (at 0 18 9) 1)))) ∷ (trees.ExpressionStatement (at 0 19 1) (trees.Assignment (at 0 19 1) (trees.Variable (at 0 19 1) (codes "a")) (trees.Binary (at 0 19 5) And (trees.Variable (at 0 19 5) (codes "b")) (trees.Variable (at 0 19 10) (codes "b"))))) ∷ (trees.ExpressionStatement (at 0 20 1) (trees.Assignment (at 0 20 1) (trees.Variable (at 0 20 1) (codes "a")) (trees.Binary (at 0 20 5) Or (trees.Variable (at 0 20 5) (codes "b")) (trees.Variable (at 0 20 10) (codes "b"))))) ∷ (trees.ExpressionStatement (at 0 21 1) (trees.Assignment (at 0 21 1) (trees.Variable (at 0 21 1) (codes "a")) (trees.Unary (at 0 21 5) Not (trees.Variable (at 0 21 6) (codes "b"))))) ∷ (trees.ExpressionStatement (at 0 22 1) (trees.Assignment (at 0 22 1) (trees.Variable (at 0 22 1) (codes "a")) (trees.Unary (at 0 22 5) Plus (trees.Number (at 0 22 6) 1)))) ∷ (trees.ExpressionStatement (at 0 23 1) (trees.Assignment (at 0 23 1) (trees.Variable (at 0 23 1) (codes "a")) (trees.Unary (at 0 23 5) Minus (trees.Number (at 0 23 6) 1)))) ∷ (trees.ExpressionStatement (at 0 24 1) (trees.Assignment (at 0 24 1) (trees.Variable (at 0 24 1) (codes "a")) (trees.Unary (at 0 24 5) Complement (trees.Number (at 0 24 6) 1)))) ∷ (trees.ExpressionStatement (at 0 25 1) (trees.Assignment (at 0 25 1) (trees.Variable (at 0 25 1) (codes "x")) (trees.Binary (at 0 25 5) Equal (trees.Number (at 0 25 5) 1) (trees.Number (at 0 25 10) 1)))) ∷ (trees.ExpressionStatement (at 0 26 1) (trees.Assignment (at 0 26 1) (trees.Variable (at 0 26 1) (codes "b")) (trees.Binary (at 0 26 5) BitAnd (trees.Variable (at 0 26 5) (codes "b")) (trees.Variable (at 0 26 9) (codes "b"))))) ∷ (trees.ExpressionStatement (at 0 27 1) (trees.Assignment (at 0 27 1) (trees.Variable (at 0 27 1) (codes "x")) (trees.Binary (at 0 27 5) Equal (trees.Null (at 0 27 5)) (trees.This (at 0 27 13))))) ∷ (trees.ExpressionStatement (at 0 28 1) (trees.Assignment (at 0 28 1) (trees.Variable (at 0 28 1) (codes "b")) (trees.Binary (at 0 28 5) BitXor (trees.Number (at 0 28 5) 1) (trees.Number (at 0 28 9) 1)))) ∷ (trees.ExpressionStatement (at 0 29 1) (trees.Assignment (at 0 29 1) (trees.Variable (at 0 29 1) (codes "b")) (trees.Unary (at 0 29 5) Plus (trees.Number (at 0 29 6) 1)))) ∷ (trees.ExpressionStatement (at 0 30 1) (trees.Assignment (at 0 30 1) (trees.Variable (at 0 30 1) (codes "x")) (trees.Unary (at 0 30 5) Not (trees.Variable (at 0 30 6) (codes "b"))))) ∷ []))) ∷ []))) ∷ [])) ∷ []

-- class A { void m(boolean b, int x) {¶x *= b;¶x /= b;¶x %= b;¶b += b;¶b -= b;¶x <<= b;¶b >>= 1;¶b >>>= b;¶x &= b;¶b ^= 1;¶x |= b;¶x *= 1;¶x /= 1;¶x %= 1;¶x += 1;¶x -= 1;¶x <<= 1;¶x >>= 1;¶x >>>= 1;¶x &= 1;¶b ^= b;¶x |= 1;¶} }
abbrev pub each_compound : List Tree
each_compound = (list_of ((trees.Class (at 0 1 7) (codes "A") Nil (list_of ((trees.Method (at 0 1 16) false (codes "m") (trees.Signature (at 0 1 16) (trees.PrimitiveType (at 0 1 16) Void) (list_of ((trees.Parameter (at 0 1 26) (trees.PrimitiveType (at 0 1 18) Boolean) (codes "b")) ∷ (trees.Parameter (at 0 1 33) (trees.PrimitiveType (at 0 1 29) Int) (codes "x")) ∷ [])) Nil) (list_of ((trees.ExpressionStatement (at 0 2 1) (trees.CompoundAssignment (at 0 2 1) Multiply (trees.Variable (at 0 2 1) (codes "x")) (trees.Variable (at 0 2 6) (codes "b")))) ∷ (trees.ExpressionStatement (at 0 3 1) (trees.CompoundAssignment (at 0 3 1) Divide (trees.Variable (at 0 3 1) (codes "x")) (trees.Variable (at 0 3 6) (codes "b")))) ∷ (trees.ExpressionStatement (at 0 4 1) (trees.CompoundAssignment (at 0 4 1) Remainder (trees.Variable (at 0 4 1) (codes "x")) (trees.Variable (at 0 4 6) (codes "b")))) ∷ (trees.ExpressionStatement (at 0 5 1) (trees.CompoundAssignment (at 0 5 1) Add (trees.Variable (at 0 5 1) (codes "b")) (trees.Variable (at 0 5 6) (codes "b")))) ∷ (trees.ExpressionStatement (at 0 6 1) (trees.CompoundAssignment (at 0 6 1) Subtract (trees.Variable (at 0 6 1) (codes "b")) (trees.Variable (at 0 6 6) (codes "b")))) ∷ (trees.ExpressionStatement (at 0 7 1) (trees.CompoundAssignment (at 0 7 1) ShiftLeft (trees.Variable (at 0 7 1) (codes "x")) (trees.Variable (at 0 7 7) (codes "b")))) ∷ (trees.ExpressionStatement (at 0 8 1) (trees.CompoundAssignment (at 0 8 1) ShiftRight (trees.Variable (at 0 8 1) (codes "b")) (trees.Number (at 0 8 7) 1))) ∷ (trees.ExpressionStatement (at 0 9 1) (trees.CompoundAssignment (at 0 9 1) ShiftRightUnsigned (trees.Variable (at 0 9 1) (codes "b")) (trees.Variable (at 0 9 8) (codes "b")))) ∷ (trees.ExpressionStatement (at 0 10 1) (trees.CompoundAssignment (at 0 10 1) BitAnd (trees.Variable (at 0 10 1) (codes "x")) (trees.Variable (at 0 10 6) (codes "b")))) ∷ (trees.ExpressionStatement (at 0 11 1) (trees.CompoundAssignment (at 0 11 1) BitXor (trees.Variable (at 0 11 1) (codes "b")) (trees.Number (at 0 11 6) 1))) ∷ (trees.ExpressionStatement (at 0 12 1) (trees.CompoundAssignment (at 0 12 1) BitOr (trees.Variable (at 0 12 1) (codes "x")) (trees.Variable (at 0 12 6) (codes "b")))) ∷ (trees.ExpressionStatement (at 0 13 1) (trees.CompoundAssignment (at 0 13 1) Multiply (trees.Variable (at 0 13 1) (codes "x")) (trees.Number (at 0 13 6) 1))) ∷ (trees.ExpressionStatement (at 0 14 1) (trees.CompoundAssignment (at 0 14 1) Divide (trees.Variable (at 0 14 1) (codes "x")) (trees.Number (at 0 14 6) 1))) ∷ (trees.ExpressionStatement (at 0 15 1) (trees.CompoundAssignment (at 0 15 1) Remainder (trees.Variable (at 0 15 1) (codes "x")) (trees.Number (at 0 15 6) 1))) ∷ (trees.ExpressionStatement (at 0 16 1) (trees.CompoundAssignment (at 0 16 1) Add (trees.Variable (at 0 16 1) (codes "x")) (trees.Number (at 0 16 6) 1))) ∷ (trees.ExpressionStatement (at 0 17 1) (trees.CompoundAssignment (at 0 17 1) Subtract (trees.Variable (at 0 17 1) (codes "x")) (trees.Number (at 0 17 6) 1))) ∷ (trees.ExpressionStatement (at 0 18 1) (trees.CompoundAssignment (at 0 18 1) ShiftLeft (trees.Variable (at 0 18 1) (codes "x")) (trees.Number (at 0 18 7) 1))) ∷ (trees.ExpressionStatement (at 0 19 1) (trees.CompoundAssignment (at 0 19 1) ShiftRight (trees.Variable (at 0 19 1) (codes "x")) (trees.Number (at 0 19 7) 1))) ∷ (trees.ExpressionStatement (at 0 20 1) (trees.CompoundAssignment (at 0 20 1) ShiftRightUnsigned (trees.Variable (at 0 20 1) (codes "x")) (trees.Number (at 0 20 8) 1))) ∷ (trees.ExpressionStatement (at 0 21 1) (trees.CompoundAssignment (at 0 21 1) BitAnd (trees.Variable (at 0 21 1) (codes "x")) (trees.Number (at 0 21 6) 1))) ∷ (trees.ExpressionStatement (at 0 22 1) (trees.CompoundAssignment (at 0 22 1) BitXor (trees.Variable (at 0 22 1) (codes "b")) (trees.Variable (at 0 22 6) (codes "b")))) ∷ (trees.ExpressionStatement (at 0 23 1) (trees.CompoundAssignment (at 0 23 1) BitOr (trees.Variable (at 0 23 1) (codes "x")) (trees.Number (at 0 23 6) 1))) ∷ []))) ∷ []))) ∷ [])) ∷ []

-- class A { static final int K = 1; int v; void m(boolean b, int[] a) {¶++b;¶b--;¶++K;¶K--;¶a.length++;¶--a[0];¶v++;¶this.v--;¶(v)++;¶++m(b, a);¶} }
abbrev pub each_step : List Tree
each_step = (list_of ((trees.Class (at 0 1 7) (codes "A") Nil (list_of ((trees.Field (at 0 1 24) true true (trees.PrimitiveType (at 0 1 24) Int) (list_of ((trees.Declarator (at 0 1 28) (codes "K") (trees.Number (at 0 1 32) 1)) ∷ []))) ∷ (trees.Field (at 0 1 35) false false (trees.PrimitiveType (at 0 1 35) Int) (list_of ((trees.Declarator (at 0 1 39) (codes "v") Nil) ∷ []))) ∷ (trees.Method (at 0 1 47) false (codes "m") (trees.Signature (at 0 1 47) (trees.PrimitiveType (at 0 1 47) Void) (list_of ((trees.Parameter (at 0 1 57) (trees.PrimitiveType (at 0 1 49) Boolean) (codes "b")) ∷ (trees.Parameter (at 0 1 66) (trees.ArrayType (at 0 1 60) (trees.PrimitiveType (at 0 1 60) Int)) (codes "a")) ∷ [])) Nil) (list_of ((trees.ExpressionStatement (at 0 2 1) (trees.Step (at 0 2 1) IncrementBefore (trees.Variable (at 0 2 3) (codes "b")))) ∷ (trees.ExpressionStatement (at 0 3 1) (trees.Step (at 0 3 1) DecrementBehind (trees.Variable (at 0 3 1) (codes "b")))) ∷ (trees.ExpressionStatement (at 0 4 1) (trees.Step (at 0 4 1) IncrementBefore (trees.Variable (at 0 4 3) (codes "K")))) ∷ (trees.ExpressionStatement (at 0 5 1) (trees.Step (at 0 5 1) DecrementBehind (trees.Variable (at 0 5 1) (codes "K")))) ∷ (trees.ExpressionStatement (at 0 6 1) (trees.Step (at 0 6 1) IncrementBehind (trees.FieldAccess (at 0 6 1) (trees.Variable (at 0 6 1) (codes "a")) (codes "length")))) ∷ (trees.ExpressionStatement (at 0 7 1) (trees.Step (at 0 7 1) DecrementBefore (trees.ArrayAccess (at 0 7 3) (trees.Variable (at 0 7 3) (codes "a")) (trees.Number (at 0 7 5) 0)))) ∷ (trees.ExpressionStatement (at 0 8 1) (trees.Step (at 0 8 1) IncrementBehind (trees.Variable (at 0 8 1) (codes "v")))) ∷ (trees.ExpressionStatement (at 0 9 1) (trees.Step (at 0 9 1) DecrementBehind (trees.FieldAccess (at 0 9 1) (trees.This (at 0 9 1)) (codes "v")))) ∷ (trees.ExpressionStatement (at 0 10 1) (trees.Step (at 0 10 1) IncrementBehind (trees.Variable (at 0 10 2) (codes "v")))) ∷ (trees.ExpressionStatement (at 0 11 1) (trees.Step (at 0 11 1) IncrementBefore (trees.Call (at 0 11 3) (codes "m") (list_of ((trees.Variable (at 0 11 5) (codes "b")) ∷ (trees.Variable (at 0 11 8) (codes "a")) ∷ []))))) ∷ []))) ∷ []))) ∷ [])) ∷ []

-- class A {¶B a;¶int b;¶HashSet<A> c;¶LinkedList<A[]> d;¶HashSet e;¶LinkedList f;¶HashSet<int> g;¶LinkedList<boolean> h;¶HashSet<HashSet<A> > i;¶A<A> j;¶A.A k;¶B[] l;¶HashSet<B> m;¶HashSet<int[]>[] n;¶A.B o;¶B.A p; ¶}
abbrev pub each_type : List Tree
each_type = (list_of ((trees.Class (at 0 1 7) (codes "A") Nil (list_of ((trees.Field (at 0 2 1) false false (trees.NamedType (at 0 2 1) (codes "B")) (list_of ((trees.Declarator (at 0 2 3) (codes "a") Nil) ∷ []))) ∷ (trees.Field (at 0 3 1) false false (trees.PrimitiveType (at 0 3 1) Int) (list_of ((trees.Declarator (at 0 3 5) (codes "b") Nil) ∷ []))) ∷ (trees.Field (at 0 4 1) false false (trees.GenericType (at 0 4 1) (trees.NamedType (at 0 4 1) (codes "HashSet")) (trees.NamedType (at 0 4 9) (codes "A"))) (list_of ((trees.Declarator (at 0 4 12) (codes "c") Nil) ∷ []))) ∷ (trees.Field (at 0 5 1) false false (trees.GenericType (at 0 5 1) (trees.NamedType (at 0 5 1) (codes "LinkedList")) (trees.ArrayType (at 0 5 12) (trees.NamedType (at 0 5 12) (codes "A")))) (list_of ((trees.Declarator (at 0 5 17) (codes "d") Nil) ∷ []))) ∷ (trees.Field (at 0 6 1) false false (trees.NamedType (at 0 6 1) (codes "HashSet")) (list_of ((trees.Declarator (at 0 6 9) (codes "e") Nil) ∷ []))) ∷ (trees.Field (at 0 7 1) false false (trees.NamedType (at 0 7 1) (codes "LinkedList")) (list_of ((trees.Declarator (at 0 7 12) (codes "f") Nil) ∷ []))) ∷ (trees.Field (at 0 8 1) false false (trees.GenericType (at 0 8 1) (trees.NamedType (at 0 8 1) (codes "HashSet")) (trees.PrimitiveType (at 0 8 9) Int)) (list_of ((trees.Declarator (at 0 8 14) (codes "g") Nil) ∷ []))) ∷ (trees.Field (at 0 9 1) false false (trees.GenericType (at 0 9 1) (trees.NamedType (at 0 9 1) (codes "LinkedList")) (trees.PrimitiveType (at 0 9 12) Boolean)) (list_of ((trees.Declarator (at 0 9 21) (codes "h") Nil) ∷ []))) ∷ (trees.Field (at 0 10 1) false false (trees.GenericType (at 0 10 1) (trees.NamedType (at 0 10 1) (codes "HashSet")) (trees.GenericType (at 0 10 9) (trees.NamedType (at 0 10 9) (codes "HashSet")) (trees.NamedType (at 0 10 17) (codes "A")))) (list_of ((trees.Declarator (at 0 10 22) (codes "i") Nil) ∷ []))) ∷ (trees.Field (at 0 11 1) false false (trees.GenericType (at 0 11 1) (trees.NamedType (at 0 11 1) (codes "A")) (trees.NamedType (at 0 11 3) (codes "A"))) (list_of ((trees.Declarator (at 0 11 6) (codes "j") Nil) ∷ []))) ∷ (trees.Field (at 0 12 1) false false (trees.QualifiedType (at 0 12 1) (codes "A") (codes "A")) (list_of ((trees.Declarator (at 0 12 5) (codes "k") Nil) ∷ []))) ∷ (trees.Field (at 0 13 1) false false (trees.ArrayType (at 0 13 1) (trees.NamedType (at 0 13 1) (codes "B"))) (list_of ((trees.Declarator (at 0 13 5) (codes "l") Nil) ∷ []))) ∷ (trees.Field (at 0 14 1) false false (trees.GenericType (at 0 14 1) (trees.NamedType (at 0 14 1) (codes "HashSet")) (trees.NamedType (at 0 14 9) (codes "B"))) (list_of ((trees.Declarator (at 0 14 12) (codes "m") Nil) ∷ []))) ∷ (trees.Field (at 0 15 1) false false (trees.ArrayType (at 0 15 1) (trees.GenericType (at 0 15 1) (trees.NamedType (at 0 15 1) (codes "HashSet")) (trees.ArrayType (at 0 15 9) (trees.PrimitiveType (at 0 15 9) Int)))) (list_of ((trees.Declarator (at 0 15 18) (codes "n") Nil) ∷ []))) ∷ (trees.Field (at 0 16 1) false false (trees.QualifiedType (at 0 16 1) (codes "A") (codes "B")) (list_of ((trees.Declarator (at 0 16 5) (codes "o") Nil) ∷ []))) ∷ (trees.Field (at 0 17 1) false false (trees.QualifiedType (at 0 17 1) (codes "B") (codes "A")) (list_of ((trees.Declarator (at 0 17 5) (codes "p") Nil) ∷ []))) ∷ []))) ∷ [])) ∷ []

-- class A { void m(A a, B b, int x, boolean c, HashSet<A> s, int[] i, A[] j, C d) {¶a = (A) b;¶b = (B) a;¶d = (C) a;¶x = (int) c;¶c = (boolean) x;¶x = (int) a;¶a = (A) x;¶s = (HashSet<A>) s;¶s = (HashSet<A>) null;¶a = (A) s;¶i = (int[]) null;¶i = (int[]) j;¶i = (int[]) i;¶c = a instanceof B;¶c = a instanceof C;¶c = x instanceof A;¶c = s instanceof HashSet<A>;¶c = i instanceof int[];¶c = i instanceof A[];¶c = null instanceof A;¶c = s instanceof A;¶} } class B extends A { } class C { }
abbrev pub each_cast : List Tree
each_cast = (list_of ((trees.Class (at 0 1 7) (codes "A") Nil (list_of ((trees.Method (at 0 1 16) false (codes "m") (trees.Signature (at 0 1 16) (trees.PrimitiveType (at 0 1 16) Void) (list_of ((trees.Parameter (at 0 1 20) (trees.NamedType (at 0 1 18) (codes "A")) (codes "a")) ∷ (trees.Parameter (at 0 1 25) (trees.NamedType (at 0 1 23) (codes "B")) (codes "b")) ∷ (trees.Parameter (at 0 1 32) (trees.PrimitiveType (at 0 1 28) Int) (codes "x")) ∷ (trees.Parameter (at 0 1 43) (trees.PrimitiveType (at 0 1 35) Boolean) (codes "c")) ∷ (trees.Parameter (at 0 1 57) (trees.GenericType (at 0 1 46) (trees.NamedType (at 0 1 46) (codes "HashSet")) (trees.NamedType (at 0 1 54) (codes "A"))) (codes "s")) ∷ (trees.Parameter (at 0 1 66) (trees.ArrayType (at 0 1 60) (trees.PrimitiveType (at 0 1 60) Int)) (codes "i")) ∷ (trees.Parameter (at 0 1 73) (trees.ArrayType (at 0 1 69) (trees.NamedType (at 0 1 69) (codes "A"))) (codes "j")) ∷ (trees.Parameter (at 0 1 78) (trees.NamedType (at 0 1 76) (codes "C")) (codes "d")) ∷ [])) Nil) (list_of ((trees.ExpressionStatement (at 0 2 1) (trees.Assignment (at 0 2 1) (trees.Variable (at 0 2 1) (codes "a")) (trees.Cast (at 0 2 5) (trees.NamedType (at 0 2 6) (codes "A")) (trees.Variable (at 0 2 9) (codes "b"))))) ∷ (trees.ExpressionStatement (at 0 3 1) (trees.Assignment (at 0 3 1) (trees.Variable (at 0 3 1) (codes "b")) (trees.Cast (at 0 3 5) (trees.NamedType (at 0 3 6) (codes "B")) (trees.Variable (at 0 3 9) (codes "a"))))) ∷ (trees.ExpressionStatement (at 0 4 1) (trees.Assignment (at 0 4 1) (trees.Variable (at 0 4 1) (codes "d")) (trees.Cast (at 0 4 5) (trees.NamedType (at 0 4 6) (codes "C")) (trees.Variable (at 0 4 9) (codes "a"))))) ∷ (trees.ExpressionStatement (at 0 5 1) (trees.Assignment (at 0 5 1) (trees.Variable (at 0 5 1) (codes "x")) (trees.Cast (at 0 5 5) (trees.PrimitiveType (at 0 5 6) Int) (trees.Variable (at 0 5 11) (codes "c"))))) ∷ (trees.ExpressionStatement (at 0 6 1) (trees.Assignment (at 0 6 1) (trees.Variable (at 0 6 1) (codes "c")) (trees.Cast (at 0 6 5) (trees.PrimitiveType (at 0 6 6) Boolean) (trees.Variable (at 0 6 15) (codes "x"))))) ∷ (trees.ExpressionStatement (at 0 7 1) (trees.Assignment (at 0 7 1) (trees.Variable (at 0 7 1) (codes "x")) (trees.Cast (at 0 7 5) (trees.PrimitiveType (at 0 7 6) Int) (trees.Variable (at 0 7 11) (codes "a"))))) ∷ (trees.ExpressionStatement (at 0 8 1) (trees.Assignment (at 0 8 1) (trees.Variable (at 0 8 1) (codes "a")) (trees.Cast (at 0 8 5) (trees.NamedType (at 0 8 6) (codes "A")) (trees.Variable (at 0 8 9) (codes "x"))))) ∷ (trees.ExpressionStatement (at 0 9 1) (trees.Assignment (at 0 9 1) (trees.Variable (at 0 9 1) (codes "s")) (trees.Cast (at 0 9 5) (trees.GenericType (at 0 9 6) (trees.NamedType (at 0 9 6) (codes "HashSet")) (trees.NamedType (at 0 9 14) (codes "A"))) (trees.Variable (at 0 9 18) (codes "s"))))) ∷ (trees.ExpressionStatement (at 0 10 1) (trees.Assignment (at 0 10 1) (trees.Variable (at 0 10 1) (codes "s")) (trees.Cast (at 0 10 5) (trees.GenericType (at 0 10 6) (trees.NamedType (at 0 10 6) (codes "HashSet")) (trees.NamedType (at 0 10 14) (codes "A"))) (trees.Null (at 0 10 18))))) ∷ (trees.ExpressionStatement (at 0 11 1) (trees.Assignment (at 0 11 1) (trees.Variable (at 0 11 1) (codes "a")) (trees.Cast (at 0 11 5) (trees.NamedType (at 0 11 6) (codes "A")) (trees.Variable (at 0 11 9) (codes "s"))))) ∷ (trees.ExpressionStatement (at 0 12 1) (trees.Assignment (at 0 12 1) (trees.Variable (at 0 12 1) (codes "i")) (trees.Cast (at 0 12 5) (trees.ArrayType (at 0 12 6) (trees.PrimitiveType (at 0 12 6) Int)) (trees.Null (at 0 12 13))))) ∷ (trees.ExpressionStatement (at 0 13 1) (trees.Assignment (at 0 13 1) (trees.Variable (at 0 13 1) (codes "i")) (trees.Cast (at 0 13 5) (trees.ArrayType (at 0 13 6) (trees.PrimitiveType (at 0 13 6) Int)) (trees.Variable (at 0 13 13) (codes "j"))))) ∷ (trees.ExpressionStatement (at 0 14 1) (trees.Assignment (at 0 14 1) (trees.Variable (at 0 14 1) (codes "i")) (trees.Cast (at 0 14 5) (trees.ArrayType (at 0 14 6) (trees.PrimitiveType (at 0 14 6) Int)) (trees.Variable (at 0 14 13) (codes "i"))))) ∷ (trees.ExpressionStatement (at 0 15 1) (trees.Assignment (at 0 15 1) (trees.Variable (at 0 15 1) (codes "c")) (trees.InstanceOf (at 0 15 5) (trees.Variable (at 0 15 5) (codes "a")) (trees.NamedType (at 0 15 18) (codes "B"))))) ∷ (trees.ExpressionStatement (at 0 16 1) (trees.Assignment (at 0 16 1) (trees.Variable (at 0 16 1) (codes "c")) (trees.InstanceOf (at 0 16 5) (trees.Variable (at 0 16 5) (codes "a")) (trees.NamedType (at 0 16 18) (codes "C"))))) ∷ (trees.ExpressionStatement (at 0 17 1) (trees.Assignment (at 0 17 1) (trees.Variable (at 0 17 1) (codes "c")) (trees.InstanceOf (at 0 17 5) (trees.Variable (at 0 17 5) (codes "x")) (trees.NamedType (at 0 17 18) (codes "A"))))) ∷ (trees.ExpressionStatement (at 0 18 1) (trees.Assignment (at 0 18 1) (trees.Variable (at 0 18 1) (codes "c")) (trees.InstanceOf (at 0 18 5) (trees.Variable (at 0 18 5) (codes "s")) (trees.GenericType (at 0 18 18) (trees.NamedType (at 0 18 18) (codes "HashSet")) (trees.NamedType (at 0 18 26) (codes "A")))))) ∷ (trees.ExpressionStatement (at 0 19 1) (trees.Assignment (at 0 19 1) (trees.Variable (at 0 19 1) (codes "c")) (trees.InstanceOf (at 0 19 5) (trees.Variable (at 0 19 5) (codes "i")) (trees.ArrayType (at 0 19 18) (trees.PrimitiveType (at 0 19 18) Int))))) ∷ (trees.ExpressionStatement (at 0 20 1) (trees.Assignment (at 0 20 1) (trees.Variable (at 0 20 1) (codes "c")) (trees.InstanceOf (at 0 20 5) (trees.Variable (at 0 20 5) (codes "i")) (trees.ArrayType (at 0 20 18) (trees.NamedType (at 0 20 18) (codes "A")))))) ∷ (trees.ExpressionStatement (at 0 21 1) (trees.Assignment (at 0 21 1) (trees.Variable (at 0 21 1) (codes "c")) (trees.InstanceOf (at 0 21 5) (trees.Null (at 0 21 5)) (trees.NamedType (at 0 21 21) (codes "A"))))) ∷ (trees.ExpressionStatement (at 0 22 1) (trees.Assignment (at 0 22 1) (trees.Variable (at 0 22 1) (codes "c")) (trees.InstanceOf (at 0 22 5) (trees.Variable (at 0 22 5) (codes "s")) (trees.NamedType (at 0 22 18) (codes "A"))))) ∷ []))) ∷ []))) ∷ (trees.Class (at 0 23 11) (codes "B") (trees.NamedType (at 0 23 21) (codes "A")) Nil) ∷ (trees.Class (at 0 23 33) (codes "C") Nil Nil) ∷ [])) ∷ []

-- class A { A p; A n() { return p; } void m(HashSet<A> s, LinkedList<A> l, A a, int x, boolean c) {¶s.add(a);¶s.add(null);¶s.add(1);¶s.add(s);¶l.add(a, a);¶s.contains(a);¶s.contains(x);¶l.remove(new int[1]);¶l.remove(l);¶s.size();¶l.isEmpty();¶s.removeFirst();¶a = l.removeFirst();¶l.removeFirst(a);¶s.size(a);¶s.remove();¶x = s.size();¶c = s.isEmpty();¶c = s.add(a);¶c = l.contains(null);¶c = l.remove(a);¶c = l.size();¶x = l.remove(a);¶s.addFirst(a);¶a.add(a);¶null.n();¶a.n().n().p.p = a.n();¶} }
abbrev pub each_call : List Tree
each_call = (list_of ((trees.Class (at 0 1 7) (codes "A") Nil (list_of ((trees.Field (at 0 1 11) false false (trees.NamedType (at 0 1 11) (codes "A")) (list_of ((trees.Declarator (at 0 1 13) (codes "p") Nil) ∷ []))) ∷ (trees.Method (at 0 1 18) false (codes "n") (trees.Signature (at 0 1 18) (trees.NamedType (at 0 1 16) (codes "A")) Nil Nil) (list_of ((trees.Return (at 0 1 24) (trees.Variable (at 0 1 31) (codes "p"))) ∷ []))) ∷ (trees.Method (at 0 1 41) false (codes "m") (trees.Signature (at 0 1 41) (trees.PrimitiveType (at 0 1 41) Void) (list_of ((trees.Parameter (at 0 1 54) (trees.GenericType (at 0 1 43) (trees.NamedType (at 0 1 43) (codes "HashSet")) (trees.NamedType (at 0 1 51) (codes "A"))) (codes "s")) ∷ (trees.Parameter (at 0 1 71) (trees.GenericType (at 0 1 57) (trees.NamedType (at 0 1 57) (codes "LinkedList")) (trees.NamedType (at 0 1 68) (codes "A"))) (codes "l")) ∷ (trees.Parameter (at 0 1 76) (trees.NamedType (at 0 1 74) (codes "A")) (codes "a")) ∷ (trees.Parameter (at 0 1 83) (trees.PrimitiveType (at 0 1 79) Int) (codes "x")) ∷ (trees.Parameter (at 0 1 94) (trees.PrimitiveType (at 0 1 86) Boolean) (codes "c")) ∷ [])) Nil) (list_of ((trees.ExpressionStatement (at 0 2 1) (trees.MethodCall (at 0 2 1) (trees.Variable (at 0 2 1) (codes "s")) (codes "add") (list_of ((trees.Variable (at 0 2 7) (codes "a")) ∷ [])))) ∷ (trees.ExpressionStatement (at 0 3 1) (trees.MethodCall (at 0 3 1) (trees.Variable (at 0 3 1) (codes "s")) (codes "add") (list_of ((trees.Null (at 0 3 7)) ∷ [])))) ∷ (trees.ExpressionStatement (at 0 4 1) (trees.MethodCall (at 0 4 1) (trees.Variable (at 0 4 1) (codes "s")) (codes "add") (list_of ((trees.Number (at 0 4 7) 1) ∷ [])))) ∷ (trees.ExpressionStatement (at 0 5 1) (trees.MethodCall (at 0 5 1) (trees.Variable (at 0 5 1) (codes "s")) (codes "add") (list_of ((trees.Variable (at 0 5 7) (codes "s")) ∷ [])))) ∷ (trees.ExpressionStatement (at 0 6 1) (trees.MethodCall (at 0 6 1) (trees.Variable (at 0 6 1) (codes "l")) (codes "add") (list_of ((trees.Variable (at 0 6 7) (codes "a")) ∷ (trees.Variable (at 0 6 10) (codes "a")) ∷ [])))) ∷ (trees.ExpressionStatement (at 0 7 1) (trees.MethodCall (at 0 7 1) (trees.Variable (at 0 7 1) (codes "s")) (codes "contains") (list_of ((trees.Variable (at 0 7 12) (codes "a")) ∷ [])))) ∷ (trees.ExpressionStatement (at 0 8 1) (trees.MethodCall (at 0 8 1) (trees.Variable (at 0 8 1) (codes "s")) (codes "contains") (list_of ((trees.Variable (at 0 8 12) (codes "x")) ∷ [])))) ∷ (trees.ExpressionStatement (at 0 9 1) (trees.MethodCall (at 0 9 1) (trees.Variable (at 0 9 1) (codes "l")) (codes "remove") (list_of ((trees.ArrayCreation (at 0 9 10) (trees.PrimitiveType (at 0 9 14) Int) (trees.Number (at 0 9 18) 1)) ∷ [])))) ∷ (trees.ExpressionStatement (at 0 10 1) (trees.MethodCall (at 0 10 1) (trees.Variable (at 0 10 1) (codes "l")) (codes "remove") (list_of ((trees.Variable (at 0 10 10) (codes "l")) ∷ [])))) ∷ (trees.ExpressionStatement (at 0 11 1) (trees.MethodCall (at 0 11 1) (trees.Variable (at 0 11 1) (codes "s")) (codes "size") Nil)) ∷ (trees.ExpressionStatement (at 0 12 1) (trees.MethodCall (at 0 12 1) (trees.Variable (at 0 12 1) (codes "l")) (codes "isEmpty") Nil)) ∷ (trees.ExpressionStatement (at 0 13 1) (trees.MethodCall (at 0 13 1) (trees.Variable (at 0 13 1) (codes "s")) (codes "removeFirst") Nil)) ∷ (trees.ExpressionStatement (at 0 14 1) (trees.Assignment (at 0 14 1) (trees.Variable (at 0 14 1) (codes "a")) (trees.MethodCall (at 0 14 5) (trees.Variable (at 0 14 5) (codes "l")) (codes "removeFirst") Nil))) ∷ (trees.ExpressionStatement (at 0 15 1) (trees.MethodCall (at 0 15 1) (trees.Variable (at 0 15 1) (codes "l")) (codes "removeFirst") (list_of ((trees.Variable (at 0 15 15) (codes "a")) ∷ [])))) ∷ (trees.ExpressionStatement (at 0 16 1) (trees.MethodCall (at 0 16 1) (trees.Variable (at 0 16 1) (codes "s")) (codes "size") (list_of ((trees.Variable (at 0 16 8) (codes "a")) ∷ [])))) ∷ (trees.ExpressionStatement (at 0 17 1) (trees.MethodCall (at 0 17 1) (trees.Variable (at 0 17 1) (codes "s")) (codes "remove") Nil)) ∷ (trees.ExpressionStatement (at 0 18 1) (trees.Assignment (at 0 18 1) (trees.Variable (at 0 18 1) (codes "x")) (trees.MethodCall (at 0 18 5) (trees.Variable (at 0 18 5) (codes "s")) (codes "size") Nil))) ∷ (trees.ExpressionStatement (at 0 19 1) (trees.Assignment (at 0 19 1) (trees.Variable (at 0 19 1) (codes "c")) (trees.MethodCall (at 0 19 5) (trees.Variable (at 0 19 5) (codes "s")) (codes "isEmpty") Nil))) ∷ (trees.ExpressionStatement (at 0 20 1) (trees.Assignment (at 0 20 1) (trees.Variable (at 0 20 1) (codes "c")) (trees.MethodCall (at 0 20 5) (trees.Variable (at 0 20 5) (codes "s")) (codes "add") (list_of ((trees.Variable (at 0 20 11) (codes "a")) ∷ []))))) ∷ (trees.ExpressionStatement (at 0 21 1) (trees.Assignment (at 0 21 1) (trees.Variable (at 0 21 1) (codes "c")) (trees.MethodCall (at 0 21 5) (trees.Variable (at 0 21 5) (codes "l")) (codes "contains") (list_of ((trees.Null (at 0 21 16)) ∷ []))))) ∷ (trees.ExpressionStatement (at 0 22 1) (trees.Assignment (at 0 22 1) (trees.Variable (at 0 22 1) (codes "c")) (trees.MethodCall (at 0 22 5) (trees.Variable (at 0 22 5) (codes "l")) (codes "remove") (list_of ((trees.Variable (at 0 22 14) (codes "a")) ∷ []))))) ∷ (trees.ExpressionStatement (at 0 23 1) (trees.Assignment (at 0 23 1) (trees.Variable (at 0 23 1) (codes "c")) (trees.MethodCall (at 0 23 5) (trees.Variable (at 0 23 5) (codes "l")) (codes "size") Nil))) ∷ (trees.ExpressionStatement (at 0 24 1) (trees.Assignment (at 0 24 1) (trees.Variable (at 0 24 1) (codes "x")) (trees.MethodCall (at 0 24 5) (trees.Variable (at 0 24 5) (codes "l")) (codes "remove") (list_of ((trees.Variable (at 0 24 14) (codes "a")) ∷ []))))) ∷ (trees.ExpressionStatement (at 0 25 1) (trees.MethodCall (at 0 25 1) (trees.Variable (at 0 25 1) (codes "s")) (codes "addFirst") (list_of ((trees.Variable (at 0 25 12) (codes "a")) ∷ [])))) ∷ (trees.ExpressionStatement (at 0 26 1) (trees.MethodCall (at 0 26 1) (trees.Variable (at 0 26 1) (codes "a")) (codes "add") (list_of ((trees.Variable (at 0 26 7) (codes "a")) ∷ [])))) ∷ (trees.ExpressionStatement (at 0 27 1) (trees.MethodCall (at 0 27 1) (trees.Null (at 0 27 1)) (codes "n") Nil)) ∷ (trees.ExpressionStatement (at 0 28 1) (trees.Assignment (at 0 28 1) (trees.FieldAccess (at 0 28 1) (trees.FieldAccess (at 0 28 1) (trees.MethodCall (at 0 28 1) (trees.MethodCall (at 0 28 1) (trees.Variable (at 0 28 1) (codes "a")) (codes "n") Nil) (codes "n") Nil) (codes "p")) (codes "p")) (trees.MethodCall (at 0 28 17) (trees.Variable (at 0 28 17) (codes "a")) (codes "n") Nil))) ∷ []))) ∷ []))) ∷ [])) ∷ []

-- class A { void m(int x) {¶break;¶while (true) { break; }¶continue;¶do { continue; } while (false);¶break;¶for (;;) { if (x == 1) break; else continue; }¶break;¶while (x == 1) ;¶continue;¶do break; while (1);¶while (1) continue;¶for (;1;) break;¶if (1) ;¶if (1) ; else ;¶} }
abbrev pub each_loop : List Tree
each_loop = (list_of ((trees.Class (at 0 1 7) (codes "A") Nil (list_of ((trees.Method (at 0 1 16) false (codes "m") (trees.Signature (at 0 1 16) (trees.PrimitiveType (at 0 1 16) Void) (list_of ((trees.Parameter (at 0 1 22) (trees.PrimitiveType (at 0 1 18) Int) (codes "x")) ∷ [])) Nil) (list_of ((trees.Break (at 0 2 1)) ∷ (trees.While (at 0 3 1) (trees.Truth (at 0 3 8) true) (trees.Block (at 0 3 14) (list_of ((trees.Break (at 0 3 16)) ∷ [])))) ∷ (trees.Continue (at 0 4 1)) ∷ (trees.Do (at 0 5 1) (trees.Block (at 0 5 4) (list_of ((trees.Continue (at 0 5 6)) ∷ []))) (trees.Truth (at 0 5 25) false)) ∷ (trees.Break (at 0 6 1)) ∷ (trees.For (at 0 7 1) Nil Nil Nil (trees.Block (at 0 7 10) (list_of ((trees.IfElse (at 0 7 12) (trees.Binary (at 0 7 16) Equal (trees.Variable (at 0 7 16) (codes "x")) (trees.Number (at 0 7 21) 1)) (trees.Break (at 0 7 24)) (trees.Continue (at 0 7 36))) ∷ [])))) ∷ (trees.Break (at 0 8 1)) ∷ (trees.While (at 0 9 1) (trees.Binary (at 0 9 8) Equal (trees.Variable (at 0 9 8) (codes "x")) (trees.Number (at 0 9 13) 1)) (trees.Empty (at 0 9 16))) ∷ (trees.Continue (at 0 10 1)) ∷ (trees.Do (at 0 11 1) (trees.Break (at 0 11 4)) (trees.Number (at 0 11 18) 1)) ∷ (trees.While (at 0 12 1) (trees.Number (at 0 12 8) 1) (trees.Continue (at 0 12 11))) ∷ (trees.For (at 0 13 1) Nil (trees.Number (at 0 13 7) 1) Nil (trees.Break (at 0 13 11))) ∷ (trees.IfThen (at 0 14 1) (trees.Number (at 0 14 5) 1) (trees.Empty (at 0 14 8))) ∷ (trees.IfElse (at 0 15 1) (trees.Number (at 0 15 5) 1) (trees.Empty (at 0 15 8)) (trees.Empty (at 0 15 15))) ∷ []))) ∷ []))) ∷ [])) ∷ []

-- class A { int v;¶//@ requires \result;¶//@ ensures \result;¶//@ ensures v;¶//@ requires \old(v) == 1;¶//@ ensures \old(v) == \result;¶//@ ensures \old(\result) == 1;¶//@ ensures \old(\old(v)) == 1;¶//@ ensures (\old(v) + \old(v)) == 1;¶//@ ensures v++ == 1;¶//@ requires (v = 2) == 1;¶//@ requires (v += 2) == 1;¶//@ requires new A() == null;¶//@ requires new int[1] == null;¶//@ requires new HashSet<A>() == null;¶int m() { return v; }¶//@ requires true;¶//@ ensures this == null;¶//@ ensures \result == 1;¶static void n() { }¶//@ requires x == 1 && y;¶void p(int x) { } }
abbrev pub each_contract : List Tree
each_contract = (list_of ((trees.Class (at 0 1 7) (codes "A") Nil (list_of ((trees.Field (at 0 1 11) false false (trees.PrimitiveType (at 0 1 11) Int) (list_of ((trees.Declarator (at 0 1 15) (codes "v") Nil) ∷ []))) ∷ (trees.Method (at 0 16 5) false (codes "m") (trees.Signature (at 0 16 5) (trees.PrimitiveType (at 0 16 1) Int) Nil (list_of ((trees.Requires (at 0 2 1) (trees.Result (at 0 2 14))) ∷ (trees.Ensures (at 0 3 1) (trees.Result (at 0 3 13))) ∷ (trees.Ensures (at 0 4 1) (trees.Variable (at 0 4 13) (codes "v"))) ∷ (trees.Requires (at 0 5 1) (trees.Binary (at 0 5 14) Equal (trees.Old (at 0 5 14) (trees.Variable (at 0 5 19) (codes "v"))) (trees.Number (at 0 5 25) 1))) ∷ (trees.Ensures (at 0 6 1) (trees.Binary (at 0 6 13) Equal (trees.Old (at 0 6 13) (trees.Variable (at 0 6 18) (codes "v"))) (trees.Result (at 0 6 24)))) ∷ (trees.Ensures (at 0 7 1) (trees.Binary (at 0 7 13) Equal (trees.Old (at 0 7 13) (trees.Result (at 0 7 18))) (trees.Number (at 0 7 30) 1))) ∷ (trees.Ensures (at 0 8 1) (trees.Binary (at 0 8 13) Equal (trees.Old (at 0 8 13) (trees.Old (at 0 8 18) (trees.Variable (at 0 8 23) (codes "v")))) (trees.Number (at 0 8 30) 1))) ∷ (trees.Ensures (at 0 9 1) (trees.Binary (at 0 9 13) Equal (trees.Binary (at 0 9 14) Add (trees.Old (at 0 9 14) (trees.Variable (at 0 9 19) (codes "v"))) (trees.Old (at 0 9 24) (trees.Variable (at 0 9 29) (codes "v")))) (trees.Number (at 0 9 36) 1))) ∷ (trees.Ensures (at 0 10 1) (trees.Binary (at 0 10 13) Equal (trees.Step (at 0 10 13) IncrementBehind (trees.Variable (at 0 10 13) (codes "v"))) (trees.Number (at 0 10 20) 1))) ∷ (trees.Requires (at 0 11 1) (trees.Binary (at 0 11 14) Equal (trees.Assignment (at 0 11 15) (trees.Variable (at 0 11 15) (codes "v")) (trees.Number (at 0 11 19) 2)) (trees.Number (at 0 11 25) 1))) ∷ (trees.Requires (at 0 12 1) (trees.Binary (at 0 12 14) Equal (trees.CompoundAssignment (at 0 12 15) Add (trees.Variable (at 0 12 15) (codes "v")) (trees.Number (at 0 12 20) 2)) (trees.Number (at 0 12 26) 1))) ∷ (trees.Requires (at 0 13 1) (trees.Binary (at 0 13 14) Equal (trees.ObjectCreation (at 0 13 14) (trees.NamedType (at 0 13 18) (codes "A")) Nil) (trees.Null (at 0 13 25)))) ∷ (trees.Requires (at 0 14 1) (trees.Binary (at 0 14 14) Equal (trees.ArrayCreation (at 0 14 14) (trees.PrimitiveType (at 0 14 18) Int) (trees.Number (at 0 14 22) 1)) (trees.Null (at 0 14 28)))) ∷ (trees.Requires (at 0 15 1) (trees.Binary (at 0 15 14) Equal (trees.ObjectCreation (at 0 15 14) (trees.GenericType (at 0 15 18) (trees.NamedType (at 0 15 18) (codes "HashSet")) (trees.NamedType (at 0 15 26) (codes "A"))) Nil) (trees.Null (at 0 15 34)))) ∷ []))) (list_of ((trees.Return (at 0 16 11) (trees.Variable (at 0 16 18) (codes "v"))) ∷ []))) ∷ (trees.Method (at 0 20 13) true (codes "n") (trees.Signature (at 0 20 13) (trees.PrimitiveType (at 0 20 13) Void) Nil (list_of ((trees.Requires (at 0 17 1) (trees.Truth (at 0 17 14) true)) ∷ (trees.Ensures (at 0 18 1) (trees.Binary (at 0 18 13) Equal (trees.This (at 0 18 13)) (trees.Null (at 0 18 21)))) ∷ (trees.Ensures (at 0 19 1) (trees.Binary (at 0 19 13) Equal (trees.Result (at 0 19 13)) (trees.Number (at 0 19 24) 1))) ∷ []))) Nil) ∷ (trees.Method (at 0 22 6) false (codes "p") (trees.Signature (at 0 22 6) (trees.PrimitiveType (at 0 22 6) Void) (list_of ((trees.Parameter (at 0 22 12) (trees.PrimitiveType (at 0 22 8) Int) (codes "x")) ∷ [])) (list_of ((trees.Requires (at 0 21 1) (trees.Binary (at 0 21 14) And (trees.Binary (at 0 21 14) Equal (trees.Variable (at 0 21 14) (codes "x")) (trees.Number (at 0 21 19) 1)) (trees.Variable (at 0 21 24) (codes "y")))) ∷ []))) Nil) ∷ []))) ∷ [])) ∷ []

-- class A {¶static final int A = 1;¶static final int B;¶static int C = 1;¶static final A D = null;¶static final int E = F;¶static final int F = A;¶static final int G = true;¶static final boolean H = null == null;¶static final int I = A == 1 ? 1 : m();¶static final boolean J = A == 1 || 1 / 0 == 1;¶static final boolean K = A == 1 && 1 / 0 == 1;¶static final int L = H ? 2 : 1 % 0;¶static final int M = H ? 1 % 0 : 2;¶static final boolean N = null instanceof A;¶static final int O = (int) 1;¶static final int P = new int[1].length;¶static final A[] Q = null;¶static int R;¶static final B S = 1;¶final int T = m();¶static int m() { return 1; } }
abbrev pub each_constant : List Tree
each_constant = (list_of ((trees.Class (at 0 1 7) (codes "A") Nil (list_of ((trees.Field (at 0 2 14) true true (trees.PrimitiveType (at 0 2 14) Int) (list_of ((trees.Declarator (at 0 2 18) (codes "A") (trees.Number (at 0 2 22) 1)) ∷ []))) ∷ (trees.Field (at 0 3 14) true true (trees.PrimitiveType (at 0 3 14) Int) (list_of ((trees.Declarator (at 0 3 18) (codes "B") Nil) ∷ []))) ∷ (trees.Field (at 0 4 8) true false (trees.PrimitiveType (at 0 4 8) Int) (list_of ((trees.Declarator (at 0 4 12) (codes "C") (trees.Number (at 0 4 16) 1)) ∷ []))) ∷ (trees.Field (at 0 5 14) true true (trees.NamedType (at 0 5 14) (codes "A")) (list_of ((trees.Declarator (at 0 5 16) (codes "D") (trees.Null (at 0 5 20))) ∷ []))) ∷ (trees.Field (at 0 6 14) true true (trees.PrimitiveType (at 0 6 14) Int) (list_of ((trees.Declarator (at 0 6 18) (codes "E") (trees.Variable (at 0 6 22) (codes "F"))) ∷ []))) ∷ (trees.Field (at 0 7 14) true true (trees.PrimitiveType (at 0 7 14) Int) (list_of ((trees.Declarator (at 0 7 18) (codes "F") (trees.Variable (at 0 7 22) (codes "A"))) ∷ []))) ∷ (trees.Field (at 0 8 14) true true (trees.PrimitiveType (at 0 8 14) Int) (list_of ((trees.Declarator (at 0 8 18) (codes "G") (trees.Truth (at 0 8 22) true)) ∷ []))) ∷ (trees.Field (at 0 9 14) true true (trees.PrimitiveType (at 0 9 14) Boolean) (list_of ((trees.Declarator (at 0 9 22) (codes "H") (trees.Binary (at 0 9 26) Equal (trees.Null (at 0 9 26)) (trees.Null (at 0 9 34)))) ∷ []))) ∷ (trees.Field (at 0 10 14) true true (trees.PrimitiveType (at 0 10 14) Int) (list_of ((trees.Declarator (at 0 10 18) (codes "I") (trees.Conditional (at 0 10 22) (trees.Binary (at 0 10 22) Equal (trees.Variable (at 0 10 22) (codes "A")) (trees.Number (at 0 10 27) 1)) (trees.Number (at 0 10 31) 1) (trees.Call (at 0 10 35) (codes "m") Nil))) ∷ []))) ∷ (trees.Field (at 0 11 14) true true (trees.PrimitiveType (at 0 11 14) Boolean) (list_of ((trees.Declarator (at 0 11 22) (codes "J") (trees.Binary (at 0 11 26) Or (trees.Binary (at 0 11 26) Equal (trees.Variable (at 0 11 26) (codes "A")) (trees.Number (at 0 11 31) 1)) (trees.Binary (at 0 11 36) Equal (trees.Binary (at 0 11 36) Divide (trees.Number (at 0 11 36) 1) (trees.Number (at 0 11 40) 0)) (trees.Number (at 0 11 45) 1)))) ∷ []))) ∷ (trees.Field (at 0 12 14) true true (trees.PrimitiveType (at 0 12 14) Boolean) (list_of ((trees.Declarator (at 0 12 22) (codes "K") (trees.Binary (at 0 12 26) And (trees.Binary (at 0 12 26) Equal (trees.Variable (at 0 12 26) (codes "A")) (trees.Number (at 0 12 31) 1)) (trees.Binary (at 0 12 36) Equal (trees.Binary (at 0 12 36) Divide (trees.Number (at 0 12 36) 1) (trees.Number (at 0 12 40) 0)) (trees.Number (at 0 12 45) 1)))) ∷ []))) ∷ (trees.Field (at 0 13 14) true true (trees.PrimitiveType (at 0 13 14) Int) (list_of ((trees.Declarator (at 0 13 18) (codes "L") (trees.Conditional (at 0 13 22) (trees.Variable (at 0 13 22) (codes "H")) (trees.Number (at 0 13 26) 2) (trees.Binary (at 0 13 30) Remainder (trees.Number (at 0 13 30) 1) (trees.Number (at 0 13 34) 0)))) ∷ []))) ∷ (trees.Field (at 0 14 14) true true (trees.PrimitiveType (at 0 14 14) Int) (list_of ((trees.Declarator (at 0 14 18) (codes "M") (trees.Conditional (at 0 14 22) (trees.Variable (at 0 14 22) (codes "H")) (trees.Binary (at 0 14 26) Remainder (trees.Number (at 0 14 26) 1) (trees.Number (at 0 14 30) 0)) (trees.Number (at 0 14 34) 2))) ∷ []))) ∷ (trees.Field (at 0 15 14) true true (trees.PrimitiveType (at 0 15 14) Boolean) (list_of ((trees.Declarator (at 0 15 22) (codes "N") (trees.InstanceOf (at 0 15 26) (trees.Null (at 0 15 26)) (trees.NamedType (at 0 15 42) (codes "A")))) ∷ []))) ∷ (trees.Field (at 0 16 14) true true (trees.PrimitiveType (at 0 16 14) Int) (list_of ((trees.Declarator (at 0 16 18) (codes "O") (trees.Cast (at 0 16 22) (trees.PrimitiveType (at 0 16 23) Int) (trees.Number (at 0 16 28) 1))) ∷ []))) ∷ (trees.Field (at 0 17 14) true true (trees.PrimitiveType (at 0 17 14) Int) (list_of ((trees.Declarator (at 0 17 18) (codes "P") (trees.FieldAccess (at 0 17 22) (trees.ArrayCreation (at 0 17 22) (trees.PrimitiveType (at 0 17 26) Int) (trees.Number (at 0 17 30) 1)) (codes "length"))) ∷ []))) ∷ (trees.Field (at 0 18 14) true true (trees.ArrayType (at 0 18 14) (trees.NamedType (at 0 18 14) (codes "A"))) (list_of ((trees.Declarator (at 0 18 18) (codes "Q") (trees.Null (at 0 18 22))) ∷ []))) ∷ (trees.Field (at 0 19 8) true false (trees.PrimitiveType (at 0 19 8) Int) (list_of ((trees.Declarator (at 0 19 12) (codes "R") Nil) ∷ []))) ∷ (trees.Field (at 0 20 14) true true (trees.NamedType (at 0 20 14) (codes "B")) (list_of ((trees.Declarator (at 0 20 16) (codes "S") (trees.Number (at 0 20 20) 1)) ∷ []))) ∷ (trees.Field (at 0 21 7) false true (trees.PrimitiveType (at 0 21 7) Int) (list_of ((trees.Declarator (at 0 21 11) (codes "T") (trees.Call (at 0 21 15) (codes "m") Nil)) ∷ []))) ∷ (trees.Method (at 0 22 12) true (codes "m") (trees.Signature (at 0 22 12) (trees.PrimitiveType (at 0 22 8) Int) Nil Nil) (list_of ((trees.Return (at 0 22 18) (trees.Number (at 0 22 25) 1)) ∷ []))) ∷ []))) ∷ [])) ∷ []

-- class A { A(int x) {¶return;¶return x;¶} int n() {¶return 1;¶return;¶return true;¶} void p() {¶return;¶return 1;¶} A q() {¶return null;¶return new B(1);¶return 1;¶} B r() {¶return new A(1);¶} } class B extends A { B(int x) { super(x); } }
abbrev pub each_return : List Tree
each_return = (list_of ((trees.Class (at 0 1 7) (codes "A") Nil (list_of ((trees.Constructor (at 0 1 11) (list_of ((trees.Parameter (at 0 1 17) (trees.PrimitiveType (at 0 1 13) Int) (codes "x")) ∷ [])) Nil (list_of ((trees.Return (at 0 2 1) Nil) ∷ (trees.Return (at 0 3 1) (trees.Variable (at 0 3 8) (codes "x"))) ∷ []))) ∷ (trees.Method (at 0 4 7) false (codes "n") (trees.Signature (at 0 4 7) (trees.PrimitiveType (at 0 4 3) Int) Nil Nil) (list_of ((trees.Return (at 0 5 1) (trees.Number (at 0 5 8) 1)) ∷ (trees.Return (at 0 6 1) Nil) ∷ (trees.Return (at 0 7 1) (trees.Truth (at 0 7 8) true)) ∷ []))) ∷ (trees.Method (at 0 8 8) false (codes "p") (trees.Signature (at 0 8 8) (trees.PrimitiveType (at 0 8 8) Void) Nil Nil) (list_of ((trees.Return (at 0 9 1) Nil) ∷ (trees.Return (at 0 10 1) (trees.Number (at 0 10 8) 1)) ∷ []))) ∷ (trees.Method (at 0 11 5) false (codes "q") (trees.Signature (at 0 11 5) (trees.NamedType (at 0 11 3) (codes "A")) Nil Nil) (list_of ((trees.Return (at 0 12 1) (trees.Null (at 0 12 8))) ∷ (trees.Return (at 0 13 1) (trees.ObjectCreation (at 0 13 8) (trees.NamedType (at 0 13 12) (codes "B")) (list_of ((trees.Number (at 0 13 14) 1) ∷ [])))) ∷ (trees.Return (at 0 14 1) (trees.Number (at 0 14 8) 1)) ∷ []))) ∷ (trees.Method (at 0 15 5) false (codes "r") (trees.Signature (at 0 15 5) (trees.NamedType (at 0 15 3) (codes "B")) Nil Nil) (list_of ((trees.Return (at 0 16 1) (trees.ObjectCreation (at 0 16 8) (trees.NamedType (at 0 16 12) (codes "A")) (list_of ((trees.Number (at 0 16 14) 1) ∷ [])))) ∷ []))) ∷ []))) ∷ (trees.Class (at 0 17 11) (codes "B") (trees.NamedType (at 0 17 21) (codes "A")) (list_of ((trees.Constructor (at 0 17 25) (list_of ((trees.Parameter (at 0 17 31) (trees.PrimitiveType (at 0 17 27) Int) (codes "x")) ∷ [])) (trees.ConstructorCall (at 0 17 36) (list_of ((trees.Variable (at 0 17 42) (codes "x")) ∷ []))) Nil) ∷ []))) ∷ [])) ∷ []

-- class A { int v; int m() { return v; } static final int K = 1; static int n() {¶int x = v;¶x = this.v;¶x = m();¶x = n();¶x = A.n();¶x = A.m();¶x = K;¶x = A.K;¶x = A.v;¶x = new A().v;¶x = new A().K;¶return new A().n(); } } class B extends A { int q() {¶int x = super.m();¶x = super.n();¶x = super.q();¶x = n() + m() + v + K;¶x = B.K + B.n();¶return C.K; } static int r() {¶return super.m(); } }
abbrev pub each_static : List Tree
each_static = (list_of ((trees.Class (at 0 1 7) (codes "A") Nil (list_of ((trees.Field (at 0 1 11) false false (trees.PrimitiveType (at 0 1 11) Int) (list_of ((trees.Declarator (at 0 1 15) (codes "v") Nil) ∷ []))) ∷ (trees.Method (at 0 1 22) false (codes "m") (trees.Signature (at 0 1 22) (trees.PrimitiveType (at 0 1 18) Int) Nil Nil) (list_of ((trees.Return (at 0 1 28) (trees.Variable (at 0 1 35) (codes "v"))) ∷ []))) ∷ (trees.Field (at 0 1 53) true true (trees.PrimitiveType (at 0 1 53) Int) (list_of ((trees.Declarator (at 0 1 57) (codes "K") (trees.Number (at 0 1 61) 1)) ∷ []))) ∷ (trees.Method (at 0 1 75) true (codes "n") (trees.Signature (at 0 1 75) (trees.PrimitiveType (at 0 1 71) Int) Nil Nil) (list_of ((trees.Local (at 0 2 1) (trees.PrimitiveType (at 0 2 1) Int) (list_of ((trees.Declarator (at 0 2 5) (codes "x") (trees.Variable (at 0 2 9) (codes "v"))) ∷ []))) ∷ (trees.ExpressionStatement (at 0 3 1) (trees.Assignment (at 0 3 1) (trees.Variable (at 0 3 1) (codes "x")) (trees.FieldAccess (at 0 3 5) (trees.This (at 0 3 5)) (codes "v")))) ∷ (trees.ExpressionStatement (at 0 4 1) (trees.Assignment (at 0 4 1) (trees.Variable (at 0 4 1) (codes "x")) (trees.Call (at 0 4 5) (codes "m") Nil))) ∷ (trees.ExpressionStatement (at 0 5 1) (trees.Assignment (at 0 5 1) (trees.Variable (at 0 5 1) (codes "x")) (trees.Call (at 0 5 5) (codes "n") Nil))) ∷ (trees.ExpressionStatement (at 0 6 1) (trees.Assignment (at 0 6 1) (trees.Variable (at 0 6 1) (codes "x")) (trees.MethodCall (at 0 6 5) (trees.Variable (at 0 6 5) (codes "A")) (codes "n") Nil))) ∷ (trees.ExpressionStatement (at 0 7 1) (trees.Assignment (at 0 7 1) (trees.Variable (at 0 7 1) (codes "x")) (trees.MethodCall (at 0 7 5) (trees.Variable (at 0 7 5) (codes "A")) (codes "m") Nil))) ∷ (trees.ExpressionStatement (at 0 8 1) (trees.Assignment (at 0 8 1) (trees.Variable (at 0 8 1) (codes "x")) (trees.Variable (at 0 8 5) (codes "K")))) ∷ (trees.ExpressionStatement (at 0 9 1) (trees.Assignment (at 0 9 1) (trees.Variable (at 0 9 1) (codes "x")) (trees.FieldAccess (at 0 9 5) (trees.Variable (at 0 9 5) (codes "A")) (codes "K")))) ∷ (trees.ExpressionStatement (at 0 10 1) (trees.Assignment (at 0 10 1) (trees.Variable (at 0 10 1) (codes "x")) (trees.FieldAccess (at 0 10 5) (trees.Variable (at 0 10 5) (codes "A")) (codes "v")))) ∷ (trees.ExpressionStatement (at 0 11 1) (trees.Assignment (at 0 11 1) (trees.Variable (at 0 11 1) (codes "x")) (trees.FieldAccess (at 0 11 5) (trees.ObjectCreation (at 0 11 5) (trees.NamedType (at 0 11 9) (codes "A")) Nil) (codes "v")))) ∷ (trees.ExpressionStatement (at 0 12 1) (trees.Assignment (at 0 12 1) (trees.Variable (at 0 12 1) (codes "x")) (trees.FieldAccess (at 0 12 5) (trees.ObjectCreation (at 0 12 5) (trees.NamedType (at 0 12 9) (codes "A")) Nil) (codes "K")))) ∷ (trees.Return (at 0 13 1) (trees.MethodCall (at 0 13 8) (trees.ObjectCreation (at 0 13 8) (trees.NamedType (at 0 13 12) (codes "A")) Nil) (codes "n") Nil)) ∷ []))) ∷ []))) ∷ (trees.Class (at 0 13 31) (codes "B") (trees.NamedType (at 0 13 41) (codes "A")) (list_of ((trees.Method (at 0 13 49) false (codes "q") (trees.Signature (at 0 13 49) (trees.PrimitiveType (at 0 13 45) Int) Nil Nil) (list_of ((trees.Local (at 0 14 1) (trees.PrimitiveType (at 0 14 1) Int) (list_of ((trees.Declarator (at 0 14 5) (codes "x") (trees.SuperCall (at 0 14 9) (codes "m") Nil)) ∷ []))) ∷ (trees.ExpressionStatement (at 0 15 1) (trees.Assignment (at 0 15 1) (trees.Variable (at 0 15 1) (codes "x")) (trees.SuperCall (at 0 15 5) (codes "n") Nil))) ∷ (trees.ExpressionStatement (at 0 16 1) (trees.Assignment (at 0 16 1) (trees.Variable (at 0 16 1) (codes "x")) (trees.SuperCall (at 0 16 5) (codes "q") Nil))) ∷ (trees.ExpressionStatement (at 0 17 1) (trees.Assignment (at 0 17 1) (trees.Variable (at 0 17 1) (codes "x")) (trees.Binary (at 0 17 5) Add (trees.Binary (at 0 17 5) Add (trees.Binary (at 0 17 5) Add (trees.Call (at 0 17 5) (codes "n") Nil) (trees.Call (at 0 17 11) (codes "m") Nil)) (trees.Variable (at 0 17 17) (codes "v"))) (trees.Variable (at 0 17 21) (codes "K"))))) ∷ (trees.ExpressionStatement (at 0 18 1) (trees.Assignment (at 0 18 1) (trees.Variable (at 0 18 1) (codes "x")) (trees.Binary (at 0 18 5) Add (trees.FieldAccess (at 0 18 5) (trees.Variable (at 0 18 5) (codes "B")) (codes "K")) (trees.MethodCall (at 0 18 11) (trees.Variable (at 0 18 11) (codes "B")) (codes "n") Nil)))) ∷ (trees.Return (at 0 19 1) (trees.FieldAccess (at 0 19 8) (trees.Variable (at 0 19 8) (codes "C")) (codes "K"))) ∷ []))) ∷ (trees.Method (at 0 19 26) true (codes "r") (trees.Signature (at 0 19 26) (trees.PrimitiveType (at 0 19 22) Int) Nil Nil) (list_of ((trees.Return (at 0 20 1) (trees.SuperCall (at 0 20 8) (codes "m") Nil)) ∷ []))) ∷ []))) ∷ [])) ∷ []

-- class O { int v; static final int K = 1; int m() { return 1; } static int s() { return 1; } static class N extends P {¶int a() { return K; }¶int b() { return v; }¶int c() { return m(); }¶int d() { return s(); }¶int e() { return w; }¶int f() { return O.K; }¶int g() { return L; }¶int h() { return t(); }¶int i() { return N.M; }¶static final int M = 2;¶} int j() {¶return M;¶} int k() {¶return N.M + new N().w + new O.N().a();¶} } class P extends O { int w; static final int L = 3; int t() { return 2; } }
abbrev pub each_nested : List Tree
each_nested = (list_of ((trees.Class (at 0 1 7) (codes "O") Nil (list_of ((trees.Field (at 0 1 11) false false (trees.PrimitiveType (at 0 1 11) Int) (list_of ((trees.Declarator (at 0 1 15) (codes "v") Nil) ∷ []))) ∷ (trees.Field (at 0 1 31) true true (trees.PrimitiveType (at 0 1 31) Int) (list_of ((trees.Declarator (at 0 1 35) (codes "K") (trees.Number (at 0 1 39) 1)) ∷ []))) ∷ (trees.Method (at 0 1 46) false (codes "m") (trees.Signature (at 0 1 46) (trees.PrimitiveType (at 0 1 42) Int) Nil Nil) (list_of ((trees.Return (at 0 1 52) (trees.Number (at 0 1 59) 1)) ∷ []))) ∷ (trees.Method (at 0 1 75) true (codes "s") (trees.Signature (at 0 1 75) (trees.PrimitiveType (at 0 1 71) Int) Nil Nil) (list_of ((trees.Return (at 0 1 81) (trees.Number (at 0 1 88) 1)) ∷ []))) ∷ (trees.Class (at 0 1 106) (codes "N") (trees.NamedType (at 0 1 116) (codes "P")) (list_of ((trees.Method (at 0 2 5) false (codes "a") (trees.Signature (at 0 2 5) (trees.PrimitiveType (at 0 2 1) Int) Nil Nil) (list_of ((trees.Return (at 0 2 11) (trees.Variable (at 0 2 18) (codes "K"))) ∷ []))) ∷ (trees.Method (at 0 3 5) false (codes "b") (trees.Signature (at 0 3 5) (trees.PrimitiveType (at 0 3 1) Int) Nil Nil) (list_of ((trees.Return (at 0 3 11) (trees.Variable (at 0 3 18) (codes "v"))) ∷ []))) ∷ (trees.Method (at 0 4 5) false (codes "c") (trees.Signature (at 0 4 5) (trees.PrimitiveType (at 0 4 1) Int) Nil Nil) (list_of ((trees.Return (at 0 4 11) (trees.Call (at 0 4 18) (codes "m") Nil)) ∷ []))) ∷ (trees.Method (at 0 5 5) false (codes "d") (trees.Signature (at 0 5 5) (trees.PrimitiveType (at 0 5 1) Int) Nil Nil) (list_of ((trees.Return (at 0 5 11) (trees.Call (at 0 5 18) (codes "s") Nil)) ∷ []))) ∷ (trees.Method (at 0 6 5) false (codes "e") (trees.Signature (at 0 6 5) (trees.PrimitiveType (at 0 6 1) Int) Nil Nil) (list_of ((trees.Return (at 0 6 11) (trees.Variable (at 0 6 18) (codes "w"))) ∷ []))) ∷ (trees.Method (at 0 7 5) false (codes "f") (trees.Signature (at 0 7 5) (trees.PrimitiveType (at 0 7 1) Int) Nil Nil) (list_of ((trees.Return (at 0 7 11) (trees.FieldAccess (at 0 7 18) (trees.Variable (at 0 7 18) (codes "O")) (codes "K"))) ∷ []))) ∷ (trees.Method (at 0 8 5) false (codes "g") (trees.Signature (at 0 8 5) (trees.PrimitiveType (at 0 8 1) Int) Nil Nil) (list_of ((trees.Return (at 0 8 11) (trees.Variable (at 0 8 18) (codes "L"))) ∷ []))) ∷ (trees.Method (at 0 9 5) false (codes "h") (trees.Signature (at 0 9 5) (trees.PrimitiveType (at 0 9 1) Int) Nil Nil) (list_of ((trees.Return (at 0 9 11) (trees.Call (at 0 9 18) (codes "t") Nil)) ∷ []))) ∷ (trees.Method (at 0 10 5) false (codes "i") (trees.Signature (at 0 10 5) (trees.PrimitiveType (at 0 10 1) Int) Nil Nil) (list_of ((trees.Return (at 0 10 11) (trees.FieldAccess (at 0 10 18) (trees.Variable (at 0 10 18) (codes "N")) (codes "M"))) ∷ []))) ∷ (trees.Field (at 0 11 14) true true (trees.PrimitiveType (at 0 11 14) Int) (list_of ((trees.Declarator (at 0 11 18) (codes "M") (trees.Number (at 0 11 22) 2)) ∷ []))) ∷ []))) ∷ (trees.Method (at 0 12 7) false (codes "j") (trees.Signature (at 0 12 7) (trees.PrimitiveType (at 0 12 3) Int) Nil Nil) (list_of ((trees.Return (at 0 13 1) (trees.Variable (at 0 13 8) (codes "M"))) ∷ []))) ∷ (trees.Method (at 0 14 7) false (codes "k") (trees.Signature (at 0 14 7) (trees.PrimitiveType (at 0 14 3) Int) Nil Nil) (list_of ((trees.Return (at 0 15 1) (trees.Binary (at 0 15 8) Add (trees.Binary (at 0 15 8) Add (trees.FieldAccess (at 0 15 8) (trees.Variable (at 0 15 8) (codes "N")) (codes "M")) (trees.FieldAccess (at 0 15 14) (trees.ObjectCreation (at 0 15 14) (trees.NamedType (at 0 15 18) (codes "N")) Nil) (codes "w"))) (trees.MethodCall (at 0 15 26) (trees.ObjectCreation (at 0 15 26) (trees.QualifiedType (at 0 15 30) (codes "O") (codes "N")) Nil) (codes "a") Nil))) ∷ []))) ∷ []))) ∷ (trees.Class (at 0 16 11) (codes "P") (trees.NamedType (at 0 16 21) (codes "O")) (list_of ((trees.Field (at 0 16 25) false false (trees.PrimitiveType (at 0 16 25) Int) (list_of ((trees.Declarator (at 0 16 29) (codes "w") Nil) ∷ []))) ∷ (trees.Field (at 0 16 45) true true (trees.PrimitiveType (at 0 16 45) Int) (list_of ((trees.Declarator (at 0 16 49) (codes "L") (trees.Number (at 0 16 53) 3)) ∷ []))) ∷ (trees.Method (at 0 16 60) false (codes "t") (trees.Signature (at 0 16 60) (trees.PrimitiveType (at 0 16 56) Int) Nil Nil) (list_of ((trees.Return (at 0 16 66) (trees.Number (at 0 16 73) 2)) ∷ []))) ∷ []))) ∷ [])) ∷ []

-- class A { int x; void m(int x, boolean y) {¶int x;¶boolean z = y, y;¶{ int z; }¶{ int w; } int w = w;¶for (int i = 0, j = i; ; ) { int i; }¶for (int i = 0; ; ) { int k = true; }¶int i; while (y) { int i; }¶if (y) { int n; } else { int n; boolean n = 1; }¶A a = this, b = null, c = new B(), d = 1;¶B e = a;¶HashSet<A> f = new HashSet<>(), g = new HashSet<B>(), h = new LinkedList<>();¶Foo p = 1, q = p; p = q; p.r = 1;¶} } class B extends A { }
abbrev pub each_local : List Tree
each_local = (list_of ((trees.Class (at 0 1 7) (codes "A") Nil (list_of ((trees.Field (at 0 1 11) false false (trees.PrimitiveType (at 0 1 11) Int) (list_of ((trees.Declarator (at 0 1 15) (codes "x") Nil) ∷ []))) ∷ (trees.Method (at 0 1 23) false (codes "m") (trees.Signature (at 0 1 23) (trees.PrimitiveType (at 0 1 23) Void) (list_of ((trees.Parameter (at 0 1 29) (trees.PrimitiveType (at 0 1 25) Int) (codes "x")) ∷ (trees.Parameter (at 0 1 40) (trees.PrimitiveType (at 0 1 32) Boolean) (codes "y")) ∷ [])) Nil) (list_of ((trees.Local (at 0 2 1) (trees.PrimitiveType (at 0 2 1) Int) (list_of ((trees.Declarator (at 0 2 5) (codes "x") Nil) ∷ []))) ∷ (trees.Local (at 0 3 1) (trees.PrimitiveType (at 0 3 1) Boolean) (list_of ((trees.Declarator (at 0 3 9) (codes "z") (trees.Variable (at 0 3 13) (codes "y"))) ∷ (trees.Declarator (at 0 3 16) (codes "y") Nil) ∷ []))) ∷ (trees.Block (at 0 4 1) (list_of ((trees.Local (at 0 4 3) (trees.PrimitiveType (at 0 4 3) Int) (list_of ((trees.Declarator (at 0 4 7) (codes "z") Nil) ∷ []))) ∷ []))) ∷ (trees.Block (at 0 5 1) (list_of ((trees.Local (at 0 5 3) (trees.PrimitiveType (at 0 5 3) Int) (list_of ((trees.Declarator (at 0 5 7) (codes "w") Nil) ∷ []))) ∷ []))) ∷ (trees.Local (at 0 5 12) (trees.PrimitiveType (at 0 5 12) Int) (list_of ((trees.Declarator (at 0 5 16) (codes "w") (trees.Variable (at 0 5 20) (codes "w"))) ∷ []))) ∷ (trees.For (at 0 6 1) (list_of ((trees.Local (at 0 6 6) (trees.PrimitiveType (at 0 6 6) Int) (list_of ((trees.Declarator (at 0 6 10) (codes "i") (trees.Number (at 0 6 14) 0)) ∷ (trees.Declarator (at 0 6 17) (codes "j") (trees.Variable (at 0 6 21) (codes "i"))) ∷ []))) ∷ [])) Nil Nil (trees.Block (at 0 6 28) (list_of ((trees.Local (at 0 6 30) (trees.PrimitiveType (at 0 6 30) Int) (list_of ((trees.Declarator (at 0 6 34) (codes "i") Nil) ∷ []))) ∷ [])))) ∷ (trees.For (at 0 7 1) (list_of ((trees.Local (at 0 7 6) (trees.PrimitiveType (at 0 7 6) Int) (list_of ((trees.Declarator (at 0 7 10) (codes "i") (trees.Number (at 0 7 14) 0)) ∷ []))) ∷ [])) Nil Nil (trees.Block (at 0 7 21) (list_of ((trees.Local (at 0 7 23) (trees.PrimitiveType (at 0 7 23) Int) (list_of ((trees.Declarator (at 0 7 27) (codes "k") (trees.Truth (at 0 7 31) true)) ∷ []))) ∷ [])))) ∷ (trees.Local (at 0 8 1) (trees.PrimitiveType (at 0 8 1) Int) (list_of ((trees.Declarator (at 0 8 5) (codes "i") Nil) ∷ []))) ∷ (trees.While (at 0 8 8) (trees.Variable (at 0 8 15) (codes "y")) (trees.Block (at 0 8 18) (list_of ((trees.Local (at 0 8 20) (trees.PrimitiveType (at 0 8 20) Int) (list_of ((trees.Declarator (at 0 8 24) (codes "i") Nil) ∷ []))) ∷ [])))) ∷ (trees.IfElse (at 0 9 1) (trees.Variable (at 0 9 5) (codes "y")) (trees.Block (at 0 9 8) (list_of ((trees.Local (at 0 9 10) (trees.PrimitiveType (at 0 9 10) Int) (list_of ((trees.Declarator (at 0 9 14) (codes "n") Nil) ∷ []))) ∷ []))) (trees.Block (at 0 9 24) (list_of ((trees.Local (at 0 9 26) (trees.PrimitiveType (at 0 9 26) Int) (list_of ((trees.Declarator (at 0 9 30) (codes "n") Nil) ∷ []))) ∷ (trees.Local (at 0 9 33) (trees.PrimitiveType (at 0 9 33) Boolean) (list_of ((trees.Declarator (at 0 9 41) (codes "n") (trees.Number (at 0 9 45) 1)) ∷ []))) ∷ [])))) ∷ (trees.Local (at 0 10 1) (trees.NamedType (at 0 10 1) (codes "A")) (list_of ((trees.Declarator (at 0 10 3) (codes "a") (trees.This (at 0 10 7))) ∷ (trees.Declarator (at 0 10 13) (codes "b") (trees.Null (at 0 10 17))) ∷ (trees.Declarator (at 0 10 23) (codes "c") (trees.ObjectCreation (at 0 10 27) (trees.NamedType (at 0 10 31) (codes "B")) Nil)) ∷ (trees.Declarator (at 0 10 36) (codes "d") (trees.Number (at 0 10 40) 1)) ∷ []))) ∷ (trees.Local (at 0 11 1) (trees.NamedType (at 0 11 1) (codes "B")) (list_of ((trees.Declarator (at 0 11 3) (codes "e") (trees.Variable (at 0 11 7) (codes "a"))) ∷ []))) ∷ (trees.Local (at 0 12 1) (trees.GenericType (at 0 12 1) (trees.NamedType (at 0 12 1) (codes "HashSet")) (trees.NamedType (at 0 12 9) (codes "A"))) (list_of ((trees.Declarator (at 0 12 12) (codes "f") (trees.ObjectCreation (at 0 12 16) (trees.DiamondType (at 0 12 20) (trees.NamedType (at 0 12 20) (codes "HashSet"))) Nil)) ∷ (trees.Declarator (at 0 12 33) (codes "g") (trees.ObjectCreation (at 0 12 37) (trees.GenericType (at 0 12 41) (trees.NamedType (at 0 12 41) (codes "HashSet")) (trees.NamedType (at 0 12 49) (codes "B"))) Nil)) ∷ (trees.Declarator (at 0 12 55) (codes "h") (trees.ObjectCreation (at 0 12 59) (trees.DiamondType (at 0 12 63) (trees.NamedType (at 0 12 63) (codes "LinkedList"))) Nil)) ∷ []))) ∷ (trees.Local (at 0 13 1) (trees.NamedType (at 0 13 1) (codes "Foo")) (list_of ((trees.Declarator (at 0 13 5) (codes "p") (trees.Number (at 0 13 9) 1)) ∷ (trees.Declarator (at 0 13 12) (codes "q") (trees.Variable (at 0 13 16) (codes "p"))) ∷ []))) ∷ (trees.ExpressionStatement (at 0 13 19) (trees.Assignment (at 0 13 19) (trees.Variable (at 0 13 19) (codes "p")) (trees.Variable (at 0 13 23) (codes "q")))) ∷ (trees.ExpressionStatement (at 0 13 26) (trees.Assignment (at 0 13 26) (trees.FieldAccess (at 0 13 26) (trees.Variable (at 0 13 26) (codes "p")) (codes "r")) (trees.Number (at 0 13 32) 1))) ∷ []))) ∷ []))) ∷ (trees.Class (at 0 14 11) (codes "B") (trees.NamedType (at 0 14 21) (codes "A")) Nil) ∷ [])) ∷ []

-- class A { int v; static final int K = 1; static class N { static final int M = K + 2; A m(int x) { return null; } } int m(int x) { return x + v; } static int t() { return 1; } } class B extends A { A w; int u; int m(int y) { return y; } } class C extends B { boolean z; static final boolean D = N.M == 3; C(int x) { } }
abbrev pub family : List Tree
family = (list_of ((trees.Class (at 0 1 7) (codes "A") Nil (list_of ((trees.Field (at 0 1 11) false false (trees.PrimitiveType (at 0 1 11) Int) (list_of ((trees.Declarator (at 0 1 15) (codes "v") Nil) ∷ []))) ∷ (trees.Field (at 0 1 31) true true (trees.PrimitiveType (at 0 1 31) Int) (list_of ((trees.Declarator (at 0 1 35) (codes "K") (trees.Number (at 0 1 39) 1)) ∷ []))) ∷ (trees.Class (at 0 1 55) (codes "N") Nil (list_of ((trees.Field (at 0 1 72) true true (trees.PrimitiveType (at 0 1 72) Int) (list_of ((trees.Declarator (at 0 1 76) (codes "M") (trees.Binary (at 0 1 80) Add (trees.Variable (at 0 1 80) (codes "K")) (trees.Number (at 0 1 84) 2))) ∷ []))) ∷ (trees.Method (at 0 1 89) false (codes "m") (trees.Signature (at 0 1 89) (trees.NamedType (at 0 1 87) (codes "A")) (list_of ((trees.Parameter (at 0 1 95) (trees.PrimitiveType (at 0 1 91) Int) (codes "x")) ∷ [])) Nil) (list_of ((trees.Return (at 0 1 100) (trees.Null (at 0 1 107))) ∷ []))) ∷ []))) ∷ (trees.Method (at 0 1 121) false (codes "m") (trees.Signature (at 0 1 121) (trees.PrimitiveType (at 0 1 117) Int) (list_of ((trees.Parameter (at 0 1 127) (trees.PrimitiveType (at 0 1 123) Int) (codes "x")) ∷ [])) Nil) (list_of ((trees.Return (at 0 1 132) (trees.Binary (at 0 1 139) Add (trees.Variable (at 0 1 139) (codes "x")) (trees.Variable (at 0 1 143) (codes "v")))) ∷ []))) ∷ (trees.Method (at 0 1 159) true (codes "t") (trees.Signature (at 0 1 159) (trees.PrimitiveType (at 0 1 155) Int) Nil Nil) (list_of ((trees.Return (at 0 1 165) (trees.Number (at 0 1 172) 1)) ∷ []))) ∷ []))) ∷ (trees.Class (at 0 1 185) (codes "B") (trees.NamedType (at 0 1 195) (codes "A")) (list_of ((trees.Field (at 0 1 199) false false (trees.NamedType (at 0 1 199) (codes "A")) (list_of ((trees.Declarator (at 0 1 201) (codes "w") Nil) ∷ []))) ∷ (trees.Field (at 0 1 204) false false (trees.PrimitiveType (at 0 1 204) Int) (list_of ((trees.Declarator (at 0 1 208) (codes "u") Nil) ∷ []))) ∷ (trees.Method (at 0 1 215) false (codes "m") (trees.Signature (at 0 1 215) (trees.PrimitiveType (at 0 1 211) Int) (list_of ((trees.Parameter (at 0 1 221) (trees.PrimitiveType (at 0 1 217) Int) (codes "y")) ∷ [])) Nil) (list_of ((trees.Return (at 0 1 226) (trees.Variable (at 0 1 233) (codes "y"))) ∷ []))) ∷ []))) ∷ (trees.Class (at 0 1 246) (codes "C") (trees.NamedType (at 0 1 256) (codes "B")) (list_of ((trees.Field (at 0 1 260) false false (trees.PrimitiveType (at 0 1 260) Boolean) (list_of ((trees.Declarator (at 0 1 268) (codes "z") Nil) ∷ []))) ∷ (trees.Field (at 0 1 284) true true (trees.PrimitiveType (at 0 1 284) Boolean) (list_of ((trees.Declarator (at 0 1 292) (codes "D") (trees.Binary (at 0 1 296) Equal (trees.FieldAccess (at 0 1 296) (trees.Variable (at 0 1 296) (codes "N")) (codes "M")) (trees.Number (at 0 1 303) 3))) ∷ []))) ∷ (trees.Constructor (at 0 1 306) (list_of ((trees.Parameter (at 0 1 312) (trees.PrimitiveType (at 0 1 308) Int) (codes "x")) ∷ [])) Nil Nil) ∷ []))) ∷ [])) ∷ []

-- class A { static final int A = 7 * -3, B = -7 / 2, C = -7 % 2, D = 2147483647 + 1, E = -2147483648 - 1, F = 1 << 33, G = -5 >> 33, H = -5 >>> 33, I = 12 & 10, J = 12 ^ 10, K = 12 | 3, L = -2147483648 / -1, M = -2147483648 % -1, N = -12 & 10, O = -1 ^ 10, P = -12 | 3, Q = -1 << 31, R = 5 >> 1, S = 5 >>> -31, T = 65536 * 65537, U = 7 / -2, V = 7 % -2, W = ~5, X = ~-1, Y = -(5), Z = +5; }
abbrev pub operator_values : List Tree
operator_values = (list_of ((trees.Class (at 0 1 7) (codes "A") Nil (list_of ((trees.Field (at 0 1 24) true true (trees.PrimitiveType (at 0 1 24) Int) (list_of ((trees.Declarator (at 0 1 28) (codes "A") (trees.Binary (at 0 1 32) Multiply (trees.Number (at 0 1 32) 7) (trees.Unary (at 0 1 36) Minus (trees.Number (at 0 1 37) 3)))) ∷ (trees.Declarator (at 0 1 40) (codes "B") (trees.Binary (at 0 1 44) Divide (trees.Unary (at 0 1 44) Minus (trees.Number (at 0 1 45) 7)) (trees.Number (at 0 1 49) 2))) ∷ (trees.Declarator (at 0 1 52) (codes "C") (trees.Binary (at 0 1 56) Remainder (trees.Unary (at 0 1 56) Minus (trees.Number (at 0 1 57) 7)) (trees.Number (at 0 1 61) 2))) ∷ (trees.Declarator (at 0 1 64) (codes "D") (trees.Binary (at 0 1 68) Add (trees.Number (at 0 1 68) 2147483647) (trees.Number (at 0 1 81) 1))) ∷ (trees.Declarator (at 0 1 84) (codes "E") (trees.Binary (at 0 1 88) Subtract (trees.Unary (at 0 1 88) Minus (trees.Number (at 0 1 89) 2147483648)) (trees.Number (at 0 1 102) 1))) ∷ (trees.Declarator (at 0 1 105) (codes "F") (trees.Binary (at 0 1 109) ShiftLeft (trees.Number (at 0 1 109) 1) (trees.Number (at 0 1 114) 33))) ∷ (trees.Declarator (at 0 1 118) (codes "G") (trees.Binary (at 0 1 122) ShiftRight (trees.Unary (at 0 1 122) Minus (trees.Number (at 0 1 123) 5)) (trees.Number (at 0 1 128) 33))) ∷ (trees.Declarator (at 0 1 132) (codes "H") (trees.Binary (at 0 1 136) ShiftRightUnsigned (trees.Unary (at 0 1 136) Minus (trees.Number (at 0 1 137) 5)) (trees.Number (at 0 1 143) 33))) ∷ (trees.Declarator (at 0 1 147) (codes "I") (trees.Binary (at 0 1 151) BitAnd (trees.Number (at 0 1 151) 12) (trees.Number (at 0 1 156) 10))) ∷ (trees.Declarator (at 0 1 160) (codes "J") (trees.Binary (at 0 1 164) BitXor (trees.Number (at 0 1 164) 12) (trees.Number (at 0 1 169) 10))) ∷ (trees.Declarator (at 0 1 173) (codes "K") (trees.Binary (at 0 1 177) BitOr (trees.Number (at 0 1 177) 12) (trees.Number (at 0 1 182) 3))) ∷ (trees.Declarator (at 0 1 185) (codes "L") (trees.Binary (at 0 1 189) Divide (trees.Unary (at 0 1 189) Minus (trees.Number (at 0 1 190) 2147483648)) (trees.Unary (at 0 1 203) Minus (trees.Number (at 0 1 204) 1)))) ∷ (trees.Declarator (at 0 1 207) (codes "M") (trees.Binary (at 0 1 211) Remainder (trees.Unary (at 0 1 211) Minus (trees.Number (at 0 1 212) 2147483648)) (trees.Unary (at 0 1 225) Minus (trees.Number (at 0 1 226) 1)))) ∷ (trees.Declarator (at 0 1 229) (codes "N") (trees.Binary (at 0 1 233) BitAnd (trees.Unary (at 0 1 233) Minus (trees.Number (at 0 1 234) 12)) (trees.Number (at 0 1 239) 10))) ∷ (trees.Declarator (at 0 1 243) (codes "O") (trees.Binary (at 0 1 247) BitXor (trees.Unary (at 0 1 247) Minus (trees.Number (at 0 1 248) 1)) (trees.Number (at 0 1 252) 10))) ∷ (trees.Declarator (at 0 1 256) (codes "P") (trees.Binary (at 0 1 260) BitOr (trees.Unary (at 0 1 260) Minus (trees.Number (at 0 1 261) 12)) (trees.Number (at 0 1 266) 3))) ∷ (trees.Declarator (at 0 1 269) (codes "Q") (trees.Binary (at 0 1 273) ShiftLeft (trees.Unary (at 0 1 273) Minus (trees.Number (at 0 1 274) 1)) (trees.Number (at 0 1 279) 31))) ∷ (trees.Declarator (at 0 1 283) (codes "R") (trees.Binary (at 0 1 287) ShiftRight (trees.Number (at 0 1 287) 5) (trees.Number (at 0 1 292) 1))) ∷ (trees.Declarator (at 0 1 295) (codes "S") (trees.Binary (at 0 1 299) ShiftRightUnsigned (trees.Number (at 0 1 299) 5) (trees.Unary (at 0 1 305) Minus (trees.Number (at 0 1 306) 31)))) ∷ (trees.Declarator (at 0 1 310) (codes "T") (trees.Binary (at 0 1 314) Multiply (trees.Number (at 0 1 314) 65536) (trees.Number (at 0 1 322) 65537))) ∷ (trees.Declarator (at 0 1 329) (codes "U") (trees.Binary (at 0 1 333) Divide (trees.Number (at 0 1 333) 7) (trees.Unary (at 0 1 337) Minus (trees.Number (at 0 1 338) 2)))) ∷ (trees.Declarator (at 0 1 341) (codes "V") (trees.Binary (at 0 1 345) Remainder (trees.Number (at 0 1 345) 7) (trees.Unary (at 0 1 349) Minus (trees.Number (at 0 1 350) 2)))) ∷ (trees.Declarator (at 0 1 353) (codes "W") (trees.Unary (at 0 1 357) Complement (trees.Number (at 0 1 358) 5))) ∷ (trees.Declarator (at 0 1 361) (codes "X") (trees.Unary (at 0 1 365) Complement (trees.Unary (at 0 1 366) Minus (trees.Number (at 0 1 367) 1)))) ∷ (trees.Declarator (at 0 1 370) (codes "Y") (trees.Unary (at 0 1 374) Minus (trees.Number (at 0 1 376) 5))) ∷ (trees.Declarator (at 0 1 380) (codes "Z") (trees.Unary (at 0 1 384) Plus (trees.Number (at 0 1 385) 5))) ∷ []))) ∷ []))) ∷ [])) ∷ []

-- class A { static final boolean A = 1 < 2, B = 2 < 1, C = 1 > 2, D = 2 > 1, E = 1 <= 1, F = 2 <= 1, G = 1 >= 1, H = 1 >= 2, I = 1 == 1, J = 1 == 2, K = 1 != 1, L = 1 != 2, M = true == true, N = true == false, O = true != true, P = false != true, Q = true & false, R = true & true, S = true ^ true, T = false ^ true, U = true | false, V = false | false, W = true && false, X = true && true, Y = false || true, Z = false || false, AA = !true, AB = !false, AC = null == null, AD = null != null, AE = false == false, AF = -1 < 0, AG = -1 > -2, AH = false && 1 / 0 == 0, AI = true || 1 / 0 == 0; static final int AJ = true ? 1 : 2, AK = false ? 1 / 0 : 2, AL = (int) 3; static final boolean AM = (boolean) true, AN = AL == AJ + AK; }
abbrev pub boolean_values : List Tree
boolean_values = (list_of ((trees.Class (at 0 1 7) (codes "A") Nil (list_of ((trees.Field (at 0 1 24) true true (trees.PrimitiveType (at 0 1 24) Boolean) (list_of ((trees.Declarator (at 0 1 32) (codes "A") (trees.Binary (at 0 1 36) Less (trees.Number (at 0 1 36) 1) (trees.Number (at 0 1 40) 2))) ∷ (trees.Declarator (at 0 1 43) (codes "B") (trees.Binary (at 0 1 47) Less (trees.Number (at 0 1 47) 2) (trees.Number (at 0 1 51) 1))) ∷ (trees.Declarator (at 0 1 54) (codes "C") (trees.Binary (at 0 1 58) Greater (trees.Number (at 0 1 58) 1) (trees.Number (at 0 1 62) 2))) ∷ (trees.Declarator (at 0 1 65) (codes "D") (trees.Binary (at 0 1 69) Greater (trees.Number (at 0 1 69) 2) (trees.Number (at 0 1 73) 1))) ∷ (trees.Declarator (at 0 1 76) (codes "E") (trees.Binary (at 0 1 80) LessOrEqual (trees.Number (at 0 1 80) 1) (trees.Number (at 0 1 85) 1))) ∷ (trees.Declarator (at 0 1 88) (codes "F") (trees.Binary (at 0 1 92) LessOrEqual (trees.Number (at 0 1 92) 2) (trees.Number (at 0 1 97) 1))) ∷ (trees.Declarator (at 0 1 100) (codes "G") (trees.Binary (at 0 1 104) GreaterOrEqual (trees.Number (at 0 1 104) 1) (trees.Number (at 0 1 109) 1))) ∷ (trees.Declarator (at 0 1 112) (codes "H") (trees.Binary (at 0 1 116) GreaterOrEqual (trees.Number (at 0 1 116) 1) (trees.Number (at 0 1 121) 2))) ∷ (trees.Declarator (at 0 1 124) (codes "I") (trees.Binary (at 0 1 128) Equal (trees.Number (at 0 1 128) 1) (trees.Number (at 0 1 133) 1))) ∷ (trees.Declarator (at 0 1 136) (codes "J") (trees.Binary (at 0 1 140) Equal (trees.Number (at 0 1 140) 1) (trees.Number (at 0 1 145) 2))) ∷ (trees.Declarator (at 0 1 148) (codes "K") (trees.Binary (at 0 1 152) NotEqual (trees.Number (at 0 1 152) 1) (trees.Number (at 0 1 157) 1))) ∷ (trees.Declarator (at 0 1 160) (codes "L") (trees.Binary (at 0 1 164) NotEqual (trees.Number (at 0 1 164) 1) (trees.Number (at 0 1 169) 2))) ∷ (trees.Declarator (at 0 1 172) (codes "M") (trees.Binary (at 0 1 176) Equal (trees.Truth (at 0 1 176) true) (trees.Truth (at 0 1 184) true))) ∷ (trees.Declarator (at 0 1 190) (codes "N") (trees.Binary (at 0 1 194) Equal (trees.Truth (at 0 1 194) true) (trees.Truth (at 0 1 202) false))) ∷ (trees.Declarator (at 0 1 209) (codes "O") (trees.Binary (at 0 1 213) NotEqual (trees.Truth (at 0 1 213) true) (trees.Truth (at 0 1 221) true))) ∷ (trees.Declarator (at 0 1 227) (codes "P") (trees.Binary (at 0 1 231) NotEqual (trees.Truth (at 0 1 231) false) (trees.Truth (at 0 1 240) true))) ∷ (trees.Declarator (at 0 1 246) (codes "Q") (trees.Binary (at 0 1 250) BitAnd (trees.Truth (at 0 1 250) true) (trees.Truth (at 0 1 257) false))) ∷ (trees.Declarator (at 0 1 264) (codes "R") (trees.Binary (at 0 1 268) BitAnd (trees.Truth (at 0 1 268) true) (trees.Truth (at 0 1 275) true))) ∷ (trees.Declarator (at 0 1 281) (codes "S") (trees.Binary (at 0 1 285) BitXor (trees.Truth (at 0 1 285) true) (trees.Truth (at 0 1 292) true))) ∷ (trees.Declarator (at 0 1 298) (codes "T") (trees.Binary (at 0 1 302) BitXor (trees.Truth (at 0 1 302) false) (trees.Truth (at 0 1 310) true))) ∷ (trees.Declarator (at 0 1 316) (codes "U") (trees.Binary (at 0 1 320) BitOr (trees.Truth (at 0 1 320) true) (trees.Truth (at 0 1 327) false))) ∷ (trees.Declarator (at 0 1 334) (codes "V") (trees.Binary (at 0 1 338) BitOr (trees.Truth (at 0 1 338) false) (trees.Truth (at 0 1 346) false))) ∷ (trees.Declarator (at 0 1 353) (codes "W") (trees.Binary (at 0 1 357) And (trees.Truth (at 0 1 357) true) (trees.Truth (at 0 1 365) false))) ∷ (trees.Declarator (at 0 1 372) (codes "X") (trees.Binary (at 0 1 376) And (trees.Truth (at 0 1 376) true) (trees.Truth (at 0 1 384) true))) ∷ (trees.Declarator (at 0 1 390) (codes "Y") (trees.Binary (at 0 1 394) Or (trees.Truth (at 0 1 394) false) (trees.Truth (at 0 1 403) true))) ∷ (trees.Declarator (at 0 1 409) (codes "Z") (trees.Binary (at 0 1 413) Or (trees.Truth (at 0 1 413) false) (trees.Truth (at 0 1 422) false))) ∷ (trees.Declarator (at 0 1 429) (codes "AA") (trees.Unary (at 0 1 434) Not (trees.Truth (at 0 1 435) true))) ∷ (trees.Declarator (at 0 1 441) (codes "AB") (trees.Unary (at 0 1 446) Not (trees.Truth (at 0 1 447) false))) ∷ (trees.Declarator (at 0 1 454) (codes "AC") (trees.Binary (at 0 1 459) Equal (trees.Null (at 0 1 459)) (trees.Null (at 0 1 467)))) ∷ (trees.Declarator (at 0 1 473) (codes "AD") (trees.Binary (at 0 1 478) NotEqual (trees.Null (at 0 1 478)) (trees.Null (at 0 1 486)))) ∷ (trees.Declarator (at 0 1 492) (codes "AE") (trees.Binary (at 0 1 497) Equal (trees.Truth (at 0 1 497) false) (trees.Truth (at 0 1 506) false))) ∷ (trees.Declarator (at 0 1 513) (codes "AF") (trees.Binary (at 0 1 518) Less (trees.Unary (at 0 1 518) Minus (trees.Number (at 0 1 519) 1)) (trees.Number (at 0 1 523) 0))) ∷ (trees.Declarator (at 0 1 526) (codes "AG") (trees.Binary (at 0 1 531) Greater (trees.Unary (at 0 1 531) Minus (trees.Number (at 0 1 532) 1)) (trees.Unary (at 0 1 536) Minus (trees.Number (at 0 1 537) 2)))) ∷ (trees.Declarator (at 0 1 540) (codes "AH") (trees.Binary (at 0 1 545) And (trees.Truth (at 0 1 545) false) (trees.Binary (at 0 1 554) Equal (trees.Binary (at 0 1 554) Divide (trees.Number (at 0 1 554) 1) (trees.Number (at 0 1 558) 0)) (trees.Number (at 0 1 563) 0)))) ∷ (trees.Declarator (at 0 1 566) (codes "AI") (trees.Binary (at 0 1 571) Or (trees.Truth (at 0 1 571) true) (trees.Binary (at 0 1 579) Equal (trees.Binary (at 0 1 579) Divide (trees.Number (at 0 1 579) 1) (trees.Number (at 0 1 583) 0)) (trees.Number (at 0 1 588) 0)))) ∷ []))) ∷ (trees.Field (at 0 1 604) true true (trees.PrimitiveType (at 0 1 604) Int) (list_of ((trees.Declarator (at 0 1 608) (codes "AJ") (trees.Conditional (at 0 1 613) (trees.Truth (at 0 1 613) true) (trees.Number (at 0 1 620) 1) (trees.Number (at 0 1 624) 2))) ∷ (trees.Declarator (at 0 1 627) (codes "AK") (trees.Conditional (at 0 1 632) (trees.Truth (at 0 1 632) false) (trees.Binary (at 0 1 640) Divide (trees.Number (at 0 1 640) 1) (trees.Number (at 0 1 644) 0)) (trees.Number (at 0 1 648) 2))) ∷ (trees.Declarator (at 0 1 651) (codes "AL") (trees.Cast (at 0 1 656) (trees.PrimitiveType (at 0 1 657) Int) (trees.Number (at 0 1 662) 3))) ∷ []))) ∷ (trees.Field (at 0 1 678) true true (trees.PrimitiveType (at 0 1 678) Boolean) (list_of ((trees.Declarator (at 0 1 686) (codes "AM") (trees.Cast (at 0 1 691) (trees.PrimitiveType (at 0 1 692) Boolean) (trees.Truth (at 0 1 701) true))) ∷ (trees.Declarator (at 0 1 707) (codes "AN") (trees.Binary (at 0 1 712) Equal (trees.Variable (at 0 1 712) (codes "AL")) (trees.Binary (at 0 1 718) Add (trees.Variable (at 0 1 718) (codes "AJ")) (trees.Variable (at 0 1 723) (codes "AK"))))) ∷ []))) ∷ []))) ∷ [])) ∷ []

-- class A { static final int K = 1; static class N { static final int L = K + 1; } static final int M = N.L + K; } @@ class B extends A { static final int O = M * 10 + K; }
abbrev pub ordered_values : List Tree
ordered_values = (list_of ((trees.Class (at 0 1 7) (codes "A") Nil (list_of ((trees.Field (at 0 1 24) true true (trees.PrimitiveType (at 0 1 24) Int) (list_of ((trees.Declarator (at 0 1 28) (codes "K") (trees.Number (at 0 1 32) 1)) ∷ []))) ∷ (trees.Class (at 0 1 48) (codes "N") Nil (list_of ((trees.Field (at 0 1 65) true true (trees.PrimitiveType (at 0 1 65) Int) (list_of ((trees.Declarator (at 0 1 69) (codes "L") (trees.Binary (at 0 1 73) Add (trees.Variable (at 0 1 73) (codes "K")) (trees.Number (at 0 1 77) 1))) ∷ []))) ∷ []))) ∷ (trees.Field (at 0 1 95) true true (trees.PrimitiveType (at 0 1 95) Int) (list_of ((trees.Declarator (at 0 1 99) (codes "M") (trees.Binary (at 0 1 103) Add (trees.FieldAccess (at 0 1 103) (trees.Variable (at 0 1 103) (codes "N")) (codes "L")) (trees.Variable (at 0 1 109) (codes "K")))) ∷ []))) ∷ []))) ∷ [])) ∷ (list_of ((trees.Class (at 1 1 7) (codes "B") (trees.NamedType (at 1 1 17) (codes "A")) (list_of ((trees.Field (at 1 1 34) true true (trees.PrimitiveType (at 1 1 34) Int) (list_of ((trees.Declarator (at 1 1 38) (codes "O") (trees.Binary (at 1 1 42) Add (trees.Binary (at 1 1 42) Multiply (trees.Variable (at 1 1 42) (codes "M")) (trees.Number (at 1 1 46) 10)) (trees.Variable (at 1 1 51) (codes "K")))) ∷ []))) ∷ []))) ∷ [])) ∷ []

-- class A { } class B extends A { } class C extends B { } class D extends C { int m(A a) { return 1; } int n() { return m(this); } }
abbrev pub c3_fine_deep : List Tree
c3_fine_deep = (list_of ((trees.Class (at 0 1 7) (codes "A") Nil Nil) ∷ (trees.Class (at 0 1 19) (codes "B") (trees.NamedType (at 0 1 29) (codes "A")) Nil) ∷ (trees.Class (at 0 1 41) (codes "C") (trees.NamedType (at 0 1 51) (codes "B")) Nil) ∷ (trees.Class (at 0 1 63) (codes "D") (trees.NamedType (at 0 1 73) (codes "C")) (list_of ((trees.Method (at 0 1 81) false (codes "m") (trees.Signature (at 0 1 81) (trees.PrimitiveType (at 0 1 77) Int) (list_of ((trees.Parameter (at 0 1 85) (trees.NamedType (at 0 1 83) (codes "A")) (codes "a")) ∷ [])) Nil) (list_of ((trees.Return (at 0 1 90) (trees.Number (at 0 1 97) 1)) ∷ []))) ∷ (trees.Method (at 0 1 106) false (codes "n") (trees.Signature (at 0 1 106) (trees.PrimitiveType (at 0 1 102) Int) Nil Nil) (list_of ((trees.Return (at 0 1 112) (trees.Call (at 0 1 119) (codes "m") (list_of ((trees.This (at 0 1 121)) ∷ [])))) ∷ []))) ∷ []))) ∷ [])) ∷ []

-- class A { } class a { }
abbrev pub c1_case : List Tree
c1_case = (list_of ((trees.Class (at 0 1 7) (codes "A") Nil Nil) ∷ (trees.Class (at 0 1 19) (codes "a") Nil Nil) ∷ [])) ∷ []

-- class A { void u() { } int n() { return 1; } void m(int x, boolean b, int[] a, A o) {¶u();¶n();¶b = u() instanceof A;¶u().v = 1;¶x = a[u()];¶x = u()[1];¶u().n();¶n(u());¶new A(u());¶a = new int[u()];¶x = -u();¶u()++;¶x = u() + 1;¶b = b ? u() : b;¶o = (A) u();¶x = u();¶x += u();¶if (u()) ; else u();¶while (u()) u();¶do u(); while (u());¶for (u(); u(); u()) u();¶{ u(); }¶int y = u();¶x = -2147483648;¶x = -(x + 2147483648);¶x = -n(2147483648);¶x = -a[2147483648];¶x = -(b ? 2147483648 : 1);¶x = - -2147483648;¶x = +2147483648;¶x = -(int) 2147483648;¶return u();¶} }
abbrev pub each_role : List Tree
each_role = (list_of ((trees.Class (at 0 1 7) (codes "A") Nil (list_of ((trees.Method (at 0 1 16) false (codes "u") (trees.Signature (at 0 1 16) (trees.PrimitiveType (at 0 1 16) Void) Nil Nil) Nil) ∷ (trees.Method (at 0 1 28) false (codes "n") (trees.Signature (at 0 1 28) (trees.PrimitiveType (at 0 1 24) Int) Nil Nil) (list_of ((trees.Return (at 0 1 34) (trees.Number (at 0 1 41) 1)) ∷ []))) ∷ (trees.Method (at 0 1 51) false (codes "m") (trees.Signature (at 0 1 51) (trees.PrimitiveType (at 0 1 51) Void) (list_of ((trees.Parameter (at 0 1 57) (trees.PrimitiveType (at 0 1 53) Int) (codes "x")) ∷ (trees.Parameter (at 0 1 68) (trees.PrimitiveType (at 0 1 60) Boolean) (codes "b")) ∷ (trees.Parameter (at 0 1 77) (trees.ArrayType (at 0 1 71) (trees.PrimitiveType (at 0 1 71) Int)) (codes "a")) ∷ (trees.Parameter (at 0 1 82) (trees.NamedType (at 0 1 80) (codes "A")) (codes "o")) ∷ [])) Nil) (list_of ((trees.ExpressionStatement (at 0 2 1) (trees.Call (at 0 2 1) (codes "u") Nil)) ∷ (trees.ExpressionStatement (at 0 3 1) (trees.Call (at 0 3 1) (codes "n") Nil)) ∷ (trees.ExpressionStatement (at 0 4 1) (trees.Assignment (at 0 4 1) (trees.Variable (at 0 4 1) (codes "b")) (trees.InstanceOf (at 0 4 5) (trees.Call (at 0 4 5) (codes "u") Nil) (trees.NamedType (at 0 4 20) (codes "A"))))) ∷ (trees.ExpressionStatement (at 0 5 1) (trees.Assignment (at 0 5 1) (trees.FieldAccess (at 0 5 1) (trees.Call (at 0 5 1) (codes "u") Nil) (codes "v")) (trees.Number (at 0 5 9) 1))) ∷ (trees.ExpressionStatement (at 0 6 1) (trees.Assignment (at 0 6 1) (trees.Variable (at 0 6 1) (codes "x")) (trees.ArrayAccess (at 0 6 5) (trees.Variable (at 0 6 5) (codes "a")) (trees.Call (at 0 6 7) (codes "u") Nil)))) ∷ (trees.ExpressionStatement (at 0 7 1) (trees.Assignment (at 0 7 1) (trees.Variable (at 0 7 1) (codes "x")) (trees.ArrayAccess (at 0 7 5) (trees.Call (at 0 7 5) (codes "u") Nil) (trees.Number (at 0 7 9) 1)))) ∷ (trees.ExpressionStatement (at 0 8 1) (trees.MethodCall (at 0 8 1) (trees.Call (at 0 8 1) (codes "u") Nil) (codes "n") Nil)) ∷ (trees.ExpressionStatement (at 0 9 1) (trees.Call (at 0 9 1) (codes "n") (list_of ((trees.Call (at 0 9 3) (codes "u") Nil) ∷ [])))) ∷ (trees.ExpressionStatement (at 0 10 1) (trees.ObjectCreation (at 0 10 1) (trees.NamedType (at 0 10 5) (codes "A")) (list_of ((trees.Call (at 0 10 7) (codes "u") Nil) ∷ [])))) ∷ (trees.ExpressionStatement (at 0 11 1) (trees.Assignment (at 0 11 1) (trees.Variable (at 0 11 1) (codes "a")) (trees.ArrayCreation (at 0 11 5) (trees.PrimitiveType (at 0 11 9) Int) (trees.Call (at 0 11 13) (codes "u") Nil)))) ∷ (trees.ExpressionStatement (at 0 12 1) (trees.Assignment (at 0 12 1) (trees.Variable (at 0 12 1) (codes "x")) (trees.Unary (at 0 12 5) Minus (trees.Call (at 0 12 6) (codes "u") Nil)))) ∷ (trees.ExpressionStatement (at 0 13 1) (trees.Step (at 0 13 1) IncrementBehind (trees.Call (at 0 13 1) (codes "u") Nil))) ∷ (trees.ExpressionStatement (at 0 14 1) (trees.Assignment (at 0 14 1) (trees.Variable (at 0 14 1) (codes "x")) (trees.Binary (at 0 14 5) Add (trees.Call (at 0 14 5) (codes "u") Nil) (trees.Number (at 0 14 11) 1)))) ∷ (trees.ExpressionStatement (at 0 15 1) (trees.Assignment (at 0 15 1) (trees.Variable (at 0 15 1) (codes "b")) (trees.Conditional (at 0 15 5) (trees.Variable (at 0 15 5) (codes "b")) (trees.Call (at 0 15 9) (codes "u") Nil) (trees.Variable (at 0 15 15) (codes "b"))))) ∷ (trees.ExpressionStatement (at 0 16 1) (trees.Assignment (at 0 16 1) (trees.Variable (at 0 16 1) (codes "o")) (trees.Cast (at 0 16 5) (trees.NamedType (at 0 16 6) (codes "A")) (trees.Call (at 0 16 9) (codes "u") Nil)))) ∷ (trees.ExpressionStatement (at 0 17 1) (trees.Assignment (at 0 17 1) (trees.Variable (at 0 17 1) (codes "x")) (trees.Call (at 0 17 5) (codes "u") Nil))) ∷ (trees.ExpressionStatement (at 0 18 1) (trees.CompoundAssignment (at 0 18 1) Add (trees.Variable (at 0 18 1) (codes "x")) (trees.Call (at 0 18 6) (codes "u") Nil))) ∷ (trees.IfElse (at 0 19 1) (trees.Call (at 0 19 5) (codes "u") Nil) (trees.Empty (at 0 19 10)) (trees.ExpressionStatement (at 0 19 17) (trees.Call (at 0 19 17) (codes "u") Nil))) ∷ (trees.While (at 0 20 1) (trees.Call (at 0 20 8) (codes "u") Nil) (trees.ExpressionStatement (at 0 20 13) (trees.Call (at 0 20 13) (codes "u") Nil))) ∷ (trees.Do (at 0 21 1) (trees.ExpressionStatement (at 0 21 4) (trees.Call (at 0 21 4) (codes "u") Nil)) (trees.Call (at 0 21 16) (codes "u") Nil)) ∷ (trees.For (at 0 22 1) (list_of ((trees.ExpressionStatement (at 0 22 6) (trees.Call (at 0 22 6) (codes "u") Nil)) ∷ [])) (trees.Call (at 0 22 11) (codes "u") Nil) (list_of ((trees.Call (at 0 22 16) (codes "u") Nil) ∷ [])) (trees.ExpressionStatement (at 0 22 21) (trees.Call (at 0 22 21) (codes "u") Nil))) ∷ (trees.Block (at 0 23 1) (list_of ((trees.ExpressionStatement (at 0 23 3) (trees.Call (at 0 23 3) (codes "u") Nil)) ∷ []))) ∷ (trees.Local (at 0 24 1) (trees.PrimitiveType (at 0 24 1) Int) (list_of ((trees.Declarator (at 0 24 5) (codes "y") (trees.Call (at 0 24 9) (codes "u") Nil)) ∷ []))) ∷ (trees.ExpressionStatement (at 0 25 1) (trees.Assignment (at 0 25 1) (trees.Variable (at 0 25 1) (codes "x")) (trees.Unary (at 0 25 5) Minus (trees.Number (at 0 25 6) 2147483648)))) ∷ (trees.ExpressionStatement (at 0 26 1) (trees.Assignment (at 0 26 1) (trees.Variable (at 0 26 1) (codes "x")) (trees.Unary (at 0 26 5) Minus (trees.Binary (at 0 26 7) Add (trees.Variable (at 0 26 7) (codes "x")) (trees.Number (at 0 26 11) 2147483648))))) ∷ (trees.ExpressionStatement (at 0 27 1) (trees.Assignment (at 0 27 1) (trees.Variable (at 0 27 1) (codes "x")) (trees.Unary (at 0 27 5) Minus (trees.Call (at 0 27 6) (codes "n") (list_of ((trees.Number (at 0 27 8) 2147483648) ∷ [])))))) ∷ (trees.ExpressionStatement (at 0 28 1) (trees.Assignment (at 0 28 1) (trees.Variable (at 0 28 1) (codes "x")) (trees.Unary (at 0 28 5) Minus (trees.ArrayAccess (at 0 28 6) (trees.Variable (at 0 28 6) (codes "a")) (trees.Number (at 0 28 8) 2147483648))))) ∷ (trees.ExpressionStatement (at 0 29 1) (trees.Assignment (at 0 29 1) (trees.Variable (at 0 29 1) (codes "x")) (trees.Unary (at 0 29 5) Minus (trees.Conditional (at 0 29 7) (trees.Variable (at 0 29 7) (codes "b")) (trees.Number (at 0 29 11) 2147483648) (trees.Number (at 0 29 24) 1))))) ∷ (trees.ExpressionStatement (at 0 30 1) (trees.Assignment (at 0 30 1) (trees.Variable (at 0 30 1) (codes "x")) (trees.Unary (at 0 30 5) Minus (trees.Unary (at 0 30 7) Minus (trees.Number (at 0 30 8) 2147483648))))) ∷ (trees.ExpressionStatement (at 0 31 1) (trees.Assignment (at 0 31 1) (trees.Variable (at 0 31 1) (codes "x")) (trees.Unary (at 0 31 5) Plus (trees.Number (at 0 31 6) 2147483648)))) ∷ (trees.ExpressionStatement (at 0 32 1) (trees.Assignment (at 0 32 1) (trees.Variable (at 0 32 1) (codes "x")) (trees.Unary (at 0 32 5) Minus (trees.Cast (at 0 32 6) (trees.PrimitiveType (at 0 32 7) Int) (trees.Number (at 0 32 12) 2147483648))))) ∷ (trees.Return (at 0 33 1) (trees.Call (at 0 33 8) (codes "u") Nil)) ∷ []))) ∷ []))) ∷ [])) ∷ []

-- class A { static final int A = 1 << 31, B = 1 << 32, C = 1 >> 32, D = 32 >> 33, E = -1 >>> 31, F = 2147483647 * 2147483647, G = 2147483647 + 2147483647, H = -2147483648 + -2147483648, I = -2147483647 - 2, J = 65536 * 65536, K = -65536 * 65536, L = 123456789 * 987654321; }
abbrev pub shifted_values : List Tree
shifted_values = (list_of ((trees.Class (at 0 1 7) (codes "A") Nil (list_of ((trees.Field (at 0 1 24) true true (trees.PrimitiveType (at 0 1 24) Int) (list_of ((trees.Declarator (at 0 1 28) (codes "A") (trees.Binary (at 0 1 32) ShiftLeft (trees.Number (at 0 1 32) 1) (trees.Number (at 0 1 37) 31))) ∷ (trees.Declarator (at 0 1 41) (codes "B") (trees.Binary (at 0 1 45) ShiftLeft (trees.Number (at 0 1 45) 1) (trees.Number (at 0 1 50) 32))) ∷ (trees.Declarator (at 0 1 54) (codes "C") (trees.Binary (at 0 1 58) ShiftRight (trees.Number (at 0 1 58) 1) (trees.Number (at 0 1 63) 32))) ∷ (trees.Declarator (at 0 1 67) (codes "D") (trees.Binary (at 0 1 71) ShiftRight (trees.Number (at 0 1 71) 32) (trees.Number (at 0 1 77) 33))) ∷ (trees.Declarator (at 0 1 81) (codes "E") (trees.Binary (at 0 1 85) ShiftRightUnsigned (trees.Unary (at 0 1 85) Minus (trees.Number (at 0 1 86) 1)) (trees.Number (at 0 1 92) 31))) ∷ (trees.Declarator (at 0 1 96) (codes "F") (trees.Binary (at 0 1 100) Multiply (trees.Number (at 0 1 100) 2147483647) (trees.Number (at 0 1 113) 2147483647))) ∷ (trees.Declarator (at 0 1 125) (codes "G") (trees.Binary (at 0 1 129) Add (trees.Number (at 0 1 129) 2147483647) (trees.Number (at 0 1 142) 2147483647))) ∷ (trees.Declarator (at 0 1 154) (codes "H") (trees.Binary (at 0 1 158) Add (trees.Unary (at 0 1 158) Minus (trees.Number (at 0 1 159) 2147483648)) (trees.Unary (at 0 1 172) Minus (trees.Number (at 0 1 173) 2147483648)))) ∷ (trees.Declarator (at 0 1 185) (codes "I") (trees.Binary (at 0 1 189) Subtract (trees.Unary (at 0 1 189) Minus (trees.Number (at 0 1 190) 2147483647)) (trees.Number (at 0 1 203) 2))) ∷ (trees.Declarator (at 0 1 206) (codes "J") (trees.Binary (at 0 1 210) Multiply (trees.Number (at 0 1 210) 65536) (trees.Number (at 0 1 218) 65536))) ∷ (trees.Declarator (at 0 1 225) (codes "K") (trees.Binary (at 0 1 229) Multiply (trees.Unary (at 0 1 229) Minus (trees.Number (at 0 1 230) 65536)) (trees.Number (at 0 1 238) 65536))) ∷ (trees.Declarator (at 0 1 245) (codes "L") (trees.Binary (at 0 1 249) Multiply (trees.Number (at 0 1 249) 123456789) (trees.Number (at 0 1 261) 987654321))) ∷ []))) ∷ []))) ∷ [])) ∷ []

-- class P { int n(int x) { return 1; } } class A extends P { int v; A(int x) { } void m(int x, boolean b, int[] a, A o) {¶x = -(2147483648 + 1);¶x = -(2147483648 == 1 ? 1 : 2);¶x = -(b ? 1 : 2147483648);¶x = -(2147483648 instanceof A);¶x = -super.n(2147483648);¶x = -o.n(2147483648);¶x = -(2147483648).n(1);¶x = -new int[2147483648].length;¶x = -new A(2147483648).v;¶x = -(x = 2147483648);¶x = -(x += 2147483648);¶x = -(2147483648)++;¶x = -(2147483648).v;¶x = -(2147483648)[1];¶x = -(2147483648);¶x = -~2147483648;¶} }
abbrev pub each_minus : List Tree
each_minus = (list_of ((trees.Class (at 0 1 7) (codes "P") Nil (list_of ((trees.Method (at 0 1 15) false (codes "n") (trees.Signature (at 0 1 15) (trees.PrimitiveType (at 0 1 11) Int) (list_of ((trees.Parameter (at 0 1 21) (trees.PrimitiveType (at 0 1 17) Int) (codes "x")) ∷ [])) Nil) (list_of ((trees.Return (at 0 1 26) (trees.Number (at 0 1 33) 1)) ∷ []))) ∷ []))) ∷ (trees.Class (at 0 1 46) (codes "A") (trees.NamedType (at 0 1 56) (codes "P")) (list_of ((trees.Field (at 0 1 60) false false (trees.PrimitiveType (at 0 1 60) Int) (list_of ((trees.Declarator (at 0 1 64) (codes "v") Nil) ∷ []))) ∷ (trees.Constructor (at 0 1 67) (list_of ((trees.Parameter (at 0 1 73) (trees.PrimitiveType (at 0 1 69) Int) (codes "x")) ∷ [])) Nil Nil) ∷ (trees.Method (at 0 1 85) false (codes "m") (trees.Signature (at 0 1 85) (trees.PrimitiveType (at 0 1 85) Void) (list_of ((trees.Parameter (at 0 1 91) (trees.PrimitiveType (at 0 1 87) Int) (codes "x")) ∷ (trees.Parameter (at 0 1 102) (trees.PrimitiveType (at 0 1 94) Boolean) (codes "b")) ∷ (trees.Parameter (at 0 1 111) (trees.ArrayType (at 0 1 105) (trees.PrimitiveType (at 0 1 105) Int)) (codes "a")) ∷ (trees.Parameter (at 0 1 116) (trees.NamedType (at 0 1 114) (codes "A")) (codes "o")) ∷ [])) Nil) (list_of ((trees.ExpressionStatement (at 0 2 1) (trees.Assignment (at 0 2 1) (trees.Variable (at 0 2 1) (codes "x")) (trees.Unary (at 0 2 5) Minus (trees.Binary (at 0 2 7) Add (trees.Number (at 0 2 7) 2147483648) (trees.Number (at 0 2 20) 1))))) ∷ (trees.ExpressionStatement (at 0 3 1) (trees.Assignment (at 0 3 1) (trees.Variable (at 0 3 1) (codes "x")) (trees.Unary (at 0 3 5) Minus (trees.Conditional (at 0 3 7) (trees.Binary (at 0 3 7) Equal (trees.Number (at 0 3 7) 2147483648) (trees.Number (at 0 3 21) 1)) (trees.Number (at 0 3 25) 1) (trees.Number (at 0 3 29) 2))))) ∷ (trees.ExpressionStatement (at 0 4 1) (trees.Assignment (at 0 4 1) (trees.Variable (at 0 4 1) (codes "x")) (trees.Unary (at 0 4 5) Minus (trees.Conditional (at 0 4 7) (trees.Variable (at 0 4 7) (codes "b")) (trees.Number (at 0 4 11) 1) (trees.Number (at 0 4 15) 2147483648))))) ∷ (trees.ExpressionStatement (at 0 5 1) (trees.Assignment (at 0 5 1) (trees.Variable (at 0 5 1) (codes "x")) (trees.Unary (at 0 5 5) Minus (trees.InstanceOf (at 0 5 7) (trees.Number (at 0 5 7) 2147483648) (trees.NamedType (at 0 5 29) (codes "A")))))) ∷ (trees.ExpressionStatement (at 0 6 1) (trees.Assignment (at 0 6 1) (trees.Variable (at 0 6 1) (codes "x")) (trees.Unary (at 0 6 5) Minus (trees.SuperCall (at 0 6 6) (codes "n") (list_of ((trees.Number (at 0 6 14) 2147483648) ∷ [])))))) ∷ (trees.ExpressionStatement (at 0 7 1) (trees.Assignment (at 0 7 1) (trees.Variable (at 0 7 1) (codes "x")) (trees.Unary (at 0 7 5) Minus (trees.MethodCall (at 0 7 6) (trees.Variable (at 0 7 6) (codes "o")) (codes "n") (list_of ((trees.Number (at 0 7 10) 2147483648) ∷ [])))))) ∷ (trees.ExpressionStatement (at 0 8 1) (trees.Assignment (at 0 8 1) (trees.Variable (at 0 8 1) (codes "x")) (trees.Unary (at 0 8 5) Minus (trees.MethodCall (at 0 8 6) (trees.Number (at 0 8 7) 2147483648) (codes "n") (list_of ((trees.Number (at 0 8 21) 1) ∷ [])))))) ∷ (trees.ExpressionStatement (at 0 9 1) (trees.Assignment (at 0 9 1) (trees.Variable (at 0 9 1) (codes "x")) (trees.Unary (at 0 9 5) Minus (trees.FieldAccess (at 0 9 6) (trees.ArrayCreation (at 0 9 6) (trees.PrimitiveType (at 0 9 10) Int) (trees.Number (at 0 9 14) 2147483648)) (codes "length"))))) ∷ (trees.ExpressionStatement (at 0 10 1) (trees.Assignment (at 0 10 1) (trees.Variable (at 0 10 1) (codes "x")) (trees.Unary (at 0 10 5) Minus (trees.FieldAccess (at 0 10 6) (trees.ObjectCreation (at 0 10 6) (trees.NamedType (at 0 10 10) (codes "A")) (list_of ((trees.Number (at 0 10 12) 2147483648) ∷ []))) (codes "v"))))) ∷ (trees.ExpressionStatement (at 0 11 1) (trees.Assignment (at 0 11 1) (trees.Variable (at 0 11 1) (codes "x")) (trees.Unary (at 0 11 5) Minus (trees.Assignment (at 0 11 7) (trees.Variable (at 0 11 7) (codes "x")) (trees.Number (at 0 11 11) 2147483648))))) ∷ (trees.ExpressionStatement (at 0 12 1) (trees.Assignment (at 0 12 1) (trees.Variable (at 0 12 1) (codes "x")) (trees.Unary (at 0 12 5) Minus (trees.CompoundAssignment (at 0 12 7) Add (trees.Variable (at 0 12 7) (codes "x")) (trees.Number (at 0 12 12) 2147483648))))) ∷ (trees.ExpressionStatement (at 0 13 1) (trees.Assignment (at 0 13 1) (trees.Variable (at 0 13 1) (codes "x")) (trees.Unary (at 0 13 5) Minus (trees.Step (at 0 13 6) IncrementBehind (trees.Number (at 0 13 7) 2147483648))))) ∷ (trees.ExpressionStatement (at 0 14 1) (trees.Assignment (at 0 14 1) (trees.Variable (at 0 14 1) (codes "x")) (trees.Unary (at 0 14 5) Minus (trees.FieldAccess (at 0 14 6) (trees.Number (at 0 14 7) 2147483648) (codes "v"))))) ∷ (trees.ExpressionStatement (at 0 15 1) (trees.Assignment (at 0 15 1) (trees.Variable (at 0 15 1) (codes "x")) (trees.Unary (at 0 15 5) Minus (trees.ArrayAccess (at 0 15 6) (trees.Number (at 0 15 7) 2147483648) (trees.Number (at 0 15 19) 1))))) ∷ (trees.ExpressionStatement (at 0 16 1) (trees.Assignment (at 0 16 1) (trees.Variable (at 0 16 1) (codes "x")) (trees.Unary (at 0 16 5) Minus (trees.Number (at 0 16 7) 2147483648)))) ∷ (trees.ExpressionStatement (at 0 17 1) (trees.Assignment (at 0 17 1) (trees.Variable (at 0 17 1) (codes "x")) (trees.Unary (at 0 17 5) Minus (trees.Unary (at 0 17 6) Complement (trees.Number (at 0 17 7) 2147483648))))) ∷ []))) ∷ []))) ∷ [])) ∷ []

-- class P { int n(int x) { return 1; } void p(int x) { } } class A extends P { int v; A(int x) { super(); } void u() { } void m(int x, boolean b, int[] a, A o, HashSet<A> s) {¶super.n(u());¶o.n(u());¶n(u());¶new A(u());¶u().n(1);¶x = u();¶u()++;¶u().v = 1;¶a[u()] = 1;¶x += u();¶s.add(u());¶super.p(1);¶super.p(super.p(1));¶o.p(1);¶x = o.p(1);¶P.n(u());¶for (x = u(); b; x = u(), n(u()), u()) u();¶} }
abbrev pub each_void : List Tree
each_void = (list_of ((trees.Class (at 0 1 7) (codes "P") Nil (list_of ((trees.Method (at 0 1 15) false (codes "n") (trees.Signature (at 0 1 15) (trees.PrimitiveType (at 0 1 11) Int) (list_of ((trees.Parameter (at 0 1 21) (trees.PrimitiveType (at 0 1 17) Int) (codes "x")) ∷ [])) Nil) (list_of ((trees.Return (at 0 1 26) (trees.Number (at 0 1 33) 1)) ∷ []))) ∷ (trees.Method (at 0 1 43) false (codes "p") (trees.Signature (at 0 1 43) (trees.PrimitiveType (at 0 1 43) Void) (list_of ((trees.Parameter (at 0 1 49) (trees.PrimitiveType (at 0 1 45) Int) (codes "x")) ∷ [])) Nil) Nil) ∷ []))) ∷ (trees.Class (at 0 1 64) (codes "A") (trees.NamedType (at 0 1 74) (codes "P")) (list_of ((trees.Field (at 0 1 78) false false (trees.PrimitiveType (at 0 1 78) Int) (list_of ((trees.Declarator (at 0 1 82) (codes "v") Nil) ∷ []))) ∷ (trees.Constructor (at 0 1 85) (list_of ((trees.Parameter (at 0 1 91) (trees.PrimitiveType (at 0 1 87) Int) (codes "x")) ∷ [])) (trees.ConstructorCall (at 0 1 96) Nil) Nil) ∷ (trees.Method (at 0 1 112) false (codes "u") (trees.Signature (at 0 1 112) (trees.PrimitiveType (at 0 1 112) Void) Nil Nil) Nil) ∷ (trees.Method (at 0 1 125) false (codes "m") (trees.Signature (at 0 1 125) (trees.PrimitiveType (at 0 1 125) Void) (list_of ((trees.Parameter (at 0 1 131) (trees.PrimitiveType (at 0 1 127) Int) (codes "x")) ∷ (trees.Parameter (at 0 1 142) (trees.PrimitiveType (at 0 1 134) Boolean) (codes "b")) ∷ (trees.Parameter (at 0 1 151) (trees.ArrayType (at 0 1 145) (trees.PrimitiveType (at 0 1 145) Int)) (codes "a")) ∷ (trees.Parameter (at 0 1 156) (trees.NamedType (at 0 1 154) (codes "A")) (codes "o")) ∷ (trees.Parameter (at 0 1 170) (trees.GenericType (at 0 1 159) (trees.NamedType (at 0 1 159) (codes "HashSet")) (trees.NamedType (at 0 1 167) (codes "A"))) (codes "s")) ∷ [])) Nil) (list_of ((trees.ExpressionStatement (at 0 2 1) (trees.SuperCall (at 0 2 1) (codes "n") (list_of ((trees.Call (at 0 2 9) (codes "u") Nil) ∷ [])))) ∷ (trees.ExpressionStatement (at 0 3 1) (trees.MethodCall (at 0 3 1) (trees.Variable (at 0 3 1) (codes "o")) (codes "n") (list_of ((trees.Call (at 0 3 5) (codes "u") Nil) ∷ [])))) ∷ (trees.ExpressionStatement (at 0 4 1) (trees.Call (at 0 4 1) (codes "n") (list_of ((trees.Call (at 0 4 3) (codes "u") Nil) ∷ [])))) ∷ (trees.ExpressionStatement (at 0 5 1) (trees.ObjectCreation (at 0 5 1) (trees.NamedType (at 0 5 5) (codes "A")) (list_of ((trees.Call (at 0 5 7) (codes "u") Nil) ∷ [])))) ∷ (trees.ExpressionStatement (at 0 6 1) (trees.MethodCall (at 0 6 1) (trees.Call (at 0 6 1) (codes "u") Nil) (codes "n") (list_of ((trees.Number (at 0 6 7) 1) ∷ [])))) ∷ (trees.ExpressionStatement (at 0 7 1) (trees.Assignment (at 0 7 1) (trees.Variable (at 0 7 1) (codes "x")) (trees.Call (at 0 7 5) (codes "u") Nil))) ∷ (trees.ExpressionStatement (at 0 8 1) (trees.Step (at 0 8 1) IncrementBehind (trees.Call (at 0 8 1) (codes "u") Nil))) ∷ (trees.ExpressionStatement (at 0 9 1) (trees.Assignment (at 0 9 1) (trees.FieldAccess (at 0 9 1) (trees.Call (at 0 9 1) (codes "u") Nil) (codes "v")) (trees.Number (at 0 9 9) 1))) ∷ (trees.ExpressionStatement (at 0 10 1) (trees.Assignment (at 0 10 1) (trees.ArrayAccess (at 0 10 1) (trees.Variable (at 0 10 1) (codes "a")) (trees.Call (at 0 10 3) (codes "u") Nil)) (trees.Number (at 0 10 10) 1))) ∷ (trees.ExpressionStatement (at 0 11 1) (trees.CompoundAssignment (at 0 11 1) Add (trees.Variable (at 0 11 1) (codes "x")) (trees.Call (at 0 11 6) (codes "u") Nil))) ∷ (trees.ExpressionStatement (at 0 12 1) (trees.MethodCall (at 0 12 1) (trees.Variable (at 0 12 1) (codes "s")) (codes "add") (list_of ((trees.Call (at 0 12 7) (codes "u") Nil) ∷ [])))) ∷ (trees.ExpressionStatement (at 0 13 1) (trees.SuperCall (at 0 13 1) (codes "p") (list_of ((trees.Number (at 0 13 9) 1) ∷ [])))) ∷ (trees.ExpressionStatement (at 0 14 1) (trees.SuperCall (at 0 14 1) (codes "p") (list_of ((trees.SuperCall (at 0 14 9) (codes "p") (list_of ((trees.Number (at 0 14 17) 1) ∷ []))) ∷ [])))) ∷ (trees.ExpressionStatement (at 0 15 1) (trees.MethodCall (at 0 15 1) (trees.Variable (at 0 15 1) (codes "o")) (codes "p") (list_of ((trees.Number (at 0 15 5) 1) ∷ [])))) ∷ (trees.ExpressionStatement (at 0 16 1) (trees.Assignment (at 0 16 1) (trees.Variable (at 0 16 1) (codes "x")) (trees.MethodCall (at 0 16 5) (trees.Variable (at 0 16 5) (codes "o")) (codes "p") (list_of ((trees.Number (at 0 16 9) 1) ∷ []))))) ∷ (trees.ExpressionStatement (at 0 17 1) (trees.MethodCall (at 0 17 1) (trees.Variable (at 0 17 1) (codes "P")) (codes "n") (list_of ((trees.Call (at 0 17 5) (codes "u") Nil) ∷ [])))) ∷ (trees.For (at 0 18 1) (list_of ((trees.ExpressionStatement (at 0 18 6) (trees.Assignment (at 0 18 6) (trees.Variable (at 0 18 6) (codes "x")) (trees.Call (at 0 18 10) (codes "u") Nil))) ∷ [])) (trees.Variable (at 0 18 15) (codes "b")) (list_of ((trees.Assignment (at 0 18 18) (trees.Variable (at 0 18 18) (codes "x")) (trees.Call (at 0 18 22) (codes "u") Nil)) ∷ (trees.Call (at 0 18 27) (codes "n") (list_of ((trees.Call (at 0 18 29) (codes "u") Nil) ∷ []))) ∷ (trees.Call (at 0 18 35) (codes "u") Nil) ∷ [])) (trees.ExpressionStatement (at 0 18 40) (trees.Call (at 0 18 40) (codes "u") Nil))) ∷ []))) ∷ []))) ∷ [])) ∷ []

-- class A { A(int x) { } void u() { } } class B extends A { B() { super(u()); } }
abbrev pub t34_void : List Tree
t34_void = (list_of ((trees.Class (at 0 1 7) (codes "A") Nil (list_of ((trees.Constructor (at 0 1 11) (list_of ((trees.Parameter (at 0 1 17) (trees.PrimitiveType (at 0 1 13) Int) (codes "x")) ∷ [])) Nil Nil) ∷ (trees.Method (at 0 1 29) false (codes "u") (trees.Signature (at 0 1 29) (trees.PrimitiveType (at 0 1 29) Void) Nil Nil) Nil) ∷ []))) ∷ (trees.Class (at 0 1 45) (codes "B") (trees.NamedType (at 0 1 55) (codes "A")) (list_of ((trees.Constructor (at 0 1 59) Nil (trees.ConstructorCall (at 0 1 65) (list_of ((trees.Call (at 0 1 71) (codes "u") Nil) ∷ []))) Nil) ∷ []))) ∷ [])) ∷ []

-- class A { void u() { } ¶//@ requires u();¶void m() { } }
abbrev pub t28_void : List Tree
t28_void = (list_of ((trees.Class (at 0 1 7) (codes "A") Nil (list_of ((trees.Method (at 0 1 16) false (codes "u") (trees.Signature (at 0 1 16) (trees.PrimitiveType (at 0 1 16) Void) Nil Nil) Nil) ∷ (trees.Method (at 0 3 6) false (codes "m") (trees.Signature (at 0 3 6) (trees.PrimitiveType (at 0 3 6) Void) Nil (list_of ((trees.Requires (at 0 2 1) (trees.Call (at 0 2 14) (codes "u") Nil)) ∷ []))) Nil) ∷ []))) ∷ [])) ∷ []

-- class A { void m(int x, int y) { } } class B extends A { void m(int x, boolean y) { } }
abbrev pub c5_second : List Tree
c5_second = (list_of ((trees.Class (at 0 1 7) (codes "A") Nil (list_of ((trees.Method (at 0 1 16) false (codes "m") (trees.Signature (at 0 1 16) (trees.PrimitiveType (at 0 1 16) Void) (list_of ((trees.Parameter (at 0 1 22) (trees.PrimitiveType (at 0 1 18) Int) (codes "x")) ∷ (trees.Parameter (at 0 1 29) (trees.PrimitiveType (at 0 1 25) Int) (codes "y")) ∷ [])) Nil) Nil) ∷ []))) ∷ (trees.Class (at 0 1 44) (codes "B") (trees.NamedType (at 0 1 54) (codes "A")) (list_of ((trees.Method (at 0 1 63) false (codes "m") (trees.Signature (at 0 1 63) (trees.PrimitiveType (at 0 1 63) Void) (list_of ((trees.Parameter (at 0 1 69) (trees.PrimitiveType (at 0 1 65) Int) (codes "x")) ∷ (trees.Parameter (at 0 1 80) (trees.PrimitiveType (at 0 1 72) Boolean) (codes "y")) ∷ [])) Nil) Nil) ∷ []))) ∷ [])) ∷ []

-- class A { int m() { return -(2147483648 ? 1 : 2); } }
abbrev pub t6_condition : List Tree
t6_condition = (list_of ((trees.Class (at 0 1 7) (codes "A") Nil (list_of ((trees.Method (at 0 1 15) false (codes "m") (trees.Signature (at 0 1 15) (trees.PrimitiveType (at 0 1 11) Int) Nil Nil) (list_of ((trees.Return (at 0 1 21) (trees.Unary (at 0 1 28) Minus (trees.Conditional (at 0 1 30) (trees.Number (at 0 1 30) 2147483648) (trees.Number (at 0 1 43) 1) (trees.Number (at 0 1 47) 2)))) ∷ []))) ∷ []))) ∷ [])) ∷ []

-- class A { void m(boolean b, int x) {¶x = 1 * 1;¶x = 1 / 1;¶x = 1 % 1;¶x = 1 + 1;¶x = 1 - 1;¶x = 1 << 1;¶x = 1 >> 1;¶x = 1 >>> 1;¶b = 1 < 1;¶b = 1 > 1;¶b = 1 <= 1;¶b = 1 >= 1;¶b = 1 == 1;¶b = b != b;¶b = b == b;¶b = 1 != 1;¶b = this == null;¶x = 1 & 1;¶b = b & b;¶x = 1 ^ 1;¶b = b ^ b;¶x = 1 | 1;¶b = b | b;¶b = b && b;¶b = b || b;¶b = !b;¶x = +1;¶x = -1;¶x = ~1;¶x = x++ + --x;¶x = (x += 1);¶x = (x = 1);¶b = (b &= b);¶x = b ? 1 : 2;¶x = (int) 1;¶b = (boolean) b;¶b = this instanceof A;¶x = new int[1].length;¶x = (new int[1])[0];¶} }
abbrev pub each_typed : List Tree
each_typed = (list_of ((trees.Class (at 0 1 7) (codes "A") Nil (list_of ((trees.Method (at 0 1 16) false (codes "m") (trees.Signature (at 0 1 16) (trees.PrimitiveType (at 0 1 16) Void) (list_of ((trees.Parameter (at 0 1 26) (trees.PrimitiveType (at 0 1 18) Boolean) (codes "b")) ∷ (trees.Parameter (at 0 1 33) (trees.PrimitiveType (at 0 1 29) Int) (codes "x")) ∷ [])) Nil) (list_of ((trees.ExpressionStatement (at 0 2 1) (trees.Assignment (at 0 2 1) (trees.Variable (at 0 2 1) (codes "x")) (trees.Binary (at 0 2 5) Multiply (trees.Number (at 0 2 5) 1) (trees.Number (at 0 2 9) 1)))) ∷ (trees.ExpressionStatement (at 0 3 1) (trees.Assignment (at 0 3 1) (trees.Variable (at 0 3 1) (codes "x")) (trees.Binary (at 0 3 5) Divide (trees.Number (at 0 3 5) 1) (trees.Number (at 0 3 9) 1)))) ∷ (trees.ExpressionStatement (at 0 4 1) (trees.Assignment (at 0 4 1) (trees.Variable (at 0 4 1) (codes "x")) (trees.Binary (at 0 4 5) Remainder (trees.Number (at 0 4 5) 1) (trees.Number (at 0 4 9) 1)))) ∷ (trees.ExpressionStatement (at 0 5 1) (trees.Assignment (at 0 5 1) (trees.Variable (at 0 5 1) (codes "x")) (trees.Binary (at 0 5 5) Add (trees.Number (at 0 5 5) 1) (trees.Number (at 0 5 9) 1)))) ∷ (trees.ExpressionStatement (at 0 6 1) (trees.Assignment (at 0 6 1) (trees.Variable (at 0 6 1) (codes "x")) (trees.Binary (at 0 6 5) Subtract (trees.Number (at 0 6 5) 1) (trees.Number (at 0 6 9) 1)))) ∷ (trees.ExpressionStatement (at 0 7 1) (trees.Assignment (at 0 7 1) (trees.Variable (at 0 7 1) (codes "x")) (trees.Binary (at 0 7 5) ShiftLeft (trees.Number (at 0 7 5) 1) (trees.Number (at 0 7 10) 1)))) ∷ (trees.ExpressionStatement (at 0 8 1) (trees.Assignment (at 0 8 1) (trees.Variable (at 0 8 1) (codes "x")) (trees.Binary (at 0 8 5) ShiftRight (trees.Number (at 0 8 5) 1) (trees.Number (at 0 8 10) 1)))) ∷ (trees.ExpressionStatement (at 0 9 1) (trees.Assignment (at 0 9 1) (trees.Variable (at 0 9 1) (codes "x")) (trees.Binary (at 0 9 5) ShiftRightUnsigned (trees.Number (at 0 9 5) 1) (trees.Number (at 0 9 11) 1)))) ∷ (trees.ExpressionStatement (at 0 10 1) (trees.Assignment (at 0 10 1) (trees.Variable (at 0 10 1) (codes "b")) (trees.Binary (at 0 10 5) Less (trees.Number (at 0 10 5) 1) (trees.Number (at 0 10 9) 1)))) ∷ (trees.ExpressionStatement (at 0 11 1) (trees.Assignment (at 0 11 1) (trees.Variable (at 0 11 1) (codes "b")) (trees.Binary (at 0 11 5) Greater (trees.Number (at 0 11 5) 1) (trees.Number (at 0 11 9) 1)))) ∷ (trees.ExpressionStatement (at 0 12 1) (trees.Assignment (at 0 12 1) (trees.Variable (at 0 12 1) (codes "b")) (trees.Binary (at 0 12 5) LessOrEqual (trees.Number (at 0 12 5) 1) (trees.Number (at 0 12 10) 1)))) ∷ (trees.ExpressionStatement (at 0 13 1) (trees.Assignment (at 0 13 1) (trees.Variable (at 0 13 1) (codes "b")) (trees.Binary (at 0 13 5) GreaterOrEqual (trees.Number (at 0 13 5) 1) (trees.Number (at 0 13 10) 1)))) ∷ (trees.ExpressionStatement (at 0 14 1) (trees.Assignment (at 0 14 1) (trees.Variable (at 0 14 1) (codes "b")) (trees.Binary (at 0 14 5) Equal (trees.Number (at 0 14 5) 1) (trees.Number (at 0 14 10) 1)))) ∷ (trees.ExpressionStatement (at 0 15 1) (trees.Assignment (at 0 15 1) (trees.Variable (at 0 15 1) (codes "b")) (trees.Binary (at 0 15 5) NotEqual (trees.Variable (at 0 15 5) (codes "b")) (trees.Variable (at 0 15 10) (codes "b"))))) ∷ (trees.ExpressionStatement (at 0 16 1) (trees.Assignment (at 0 16 1) (trees.Variable (at 0 16 1) (codes "b")) (trees.Binary (at 0 16 5) Equal (trees.Variable (at 0 16 5) (codes "b")) (trees.Variable (at 0 16 10) (codes "b"))))) ∷ (trees.ExpressionStatement (at 0 17 1) (trees.Assignment (at 0 17 1) (trees.Variable (at 0 17 1) (codes "b")) (trees.Binary (at 0 17 5) NotEqual (trees.Number (at 0 17 5) 1) (trees.Number (at 0 17 10) 1)))) ∷ (trees.ExpressionStatement (at 0 18 1) (trees.Assignment (at 0 18 1) (trees.Variable (at 0 18 1) (codes "b")) (trees.Binary (at 0 18 5) Equal (trees.This (at 0 18 5)) (trees.Null (at 0 18 13))))) ∷ (trees.ExpressionStatement (at 0 19 1) (trees.Assignment (at 0 19 1) (trees.Variable (at 0 19 1) (codes "x")) (trees.Binary (at 0 19 5) BitAnd (trees.Number (at 0 19 5) 1) (trees.Number (at 0 19 9) 1)))) ∷ (trees.ExpressionStatement (at 0 20 1) (trees.Assignment (at 0 20 1) (trees.Variable (at 0 20 1) (codes "b")) (trees.Binary (at 0 20 5) BitAnd (trees.Variable (at 0 20 5) (codes "b")) (trees.Variable (at 0 20 9) (codes "b"))))) ∷ (trees.ExpressionStatement (at 0 21 1) (trees.Assignment (at 0 21 1) (trees.Variable (at 0 21 1) (codes "x")) (trees.Binary (at 0 21 5) BitXor (trees.Number (at 0 21 5) 1) (trees.Number (at 0 21 9) 1)))) ∷ (trees.ExpressionStatement (at 0 22 1) (trees.Assignment (at 0 22 1) (trees.Variable (at 0 22 1) (codes "b")) (trees.Binary (at 0 22 5) BitXor (trees.Variable (at 0 22 5) (codes "b")) (trees.Variable (at 0 22 9) (codes "b"))))) ∷ (trees.ExpressionStatement (at 0 23 1) (trees.Assignment (at 0 23 1) (trees.Variable (at 0 23 1) (codes "x")) (trees.Binary (at 0 23 5) BitOr (trees.Number (at 0 23 5) 1) (trees.Number (at 0 23 9) 1)))) ∷ (trees.ExpressionStatement (at 0 24 1) (trees.Assignment (at 0 24 1) (trees.Variable (at 0 24 1) (codes "b")) (trees.Binary (at 0 24 5) BitOr (trees.Variable (at 0 24 5) (codes "b")) (trees.Variable (at 0 24 9) (codes "b"))))) ∷ (trees.ExpressionStatement (at 0 25 1) (trees.Assignment (at 0 25 1) (trees.Variable (at 0 25 1) (codes "b")) (trees.Binary (at 0 25 5) And (trees.Variable (at 0 25 5) (codes "b")) (trees.Variable (at 0 25 10) (codes "b"))))) ∷ (trees.ExpressionStatement (at 0 26 1) (trees.Assignment (at 0 26 1) (trees.Variable (at 0 26 1) (codes "b")) (trees.Binary (at 0 26 5) Or (trees.Variable (at 0 26 5) (codes "b")) (trees.Variable (at 0 26 10) (codes "b"))))) ∷ (trees.ExpressionStatement (at 0 27 1) (trees.Assignment (at 0 27 1) (trees.Variable (at 0 27 1) (codes "b")) (trees.Unary (at 0 27 5) Not (trees.Variable (at 0 27 6) (codes "b"))))) ∷ (trees.ExpressionStatement (at 0 28 1) (trees.Assignment (at 0 28 1) (trees.Variable (at 0 28 1) (codes "x")) (trees.Unary (at 0 28 5) Plus (trees.Number (at 0 28 6) 1)))) ∷ (trees.ExpressionStatement (at 0 29 1) (trees.Assignment (at 0 29 1) (trees.Variable (at 0 29 1) (codes "x")) (trees.Unary (at 0 29 5) Minus (trees.Number (at 0 29 6) 1)))) ∷ (trees.ExpressionStatement (at 0 30 1) (trees.Assignment (at 0 30 1) (trees.Variable (at 0 30 1) (codes "x")) (trees.Unary (at 0 30 5) Complement (trees.Number (at 0 30 6) 1)))) ∷ (trees.ExpressionStatement (at 0 31 1) (trees.Assignment (at 0 31 1) (trees.Variable (at 0 31 1) (codes "x")) (trees.Binary (at 0 31 5) Add (trees.Step (at 0 31 5) IncrementBehind (trees.Variable (at 0 31 5) (codes "x"))) (trees.Step (at 0 31 11) DecrementBefore (trees.Variable (at 0 31 13) (codes "x")))))) ∷ (trees.ExpressionStatement (at 0 32 1) (trees.Assignment (at 0 32 1) (trees.Variable (at 0 32 1) (codes "x")) (trees.CompoundAssignment (at 0 32 6) Add (trees.Variable (at 0 32 6) (codes "x")) (trees.Number (at 0 32 11) 1)))) ∷ (trees.ExpressionStatement (at 0 33 1) (trees.Assignment (at 0 33 1) (trees.Variable (at 0 33 1) (codes "x")) (trees.Assignment (at 0 33 6) (trees.Variable (at 0 33 6) (codes "x")) (trees.Number (at 0 33 10) 1)))) ∷ (trees.ExpressionStatement (at 0 34 1) (trees.Assignment (at 0 34 1) (trees.Variable (at 0 34 1) (codes "b")) (trees.CompoundAssignment (at 0 34 6) BitAnd (trees.Variable (at 0 34 6) (codes "b")) (trees.Variable (at 0 34 11) (codes "b"))))) ∷ (trees.ExpressionStatement (at 0 35 1) (trees.Assignment (at 0 35 1) (trees.Variable (at 0 35 1) (codes "x")) (trees.Conditional (at 0 35 5) (trees.Variable (at 0 35 5) (codes "b")) (trees.Number (at 0 35 9) 1) (trees.Number (at 0 35 13) 2)))) ∷ (trees.ExpressionStatement (at 0 36 1) (trees.Assignment (at 0 36 1) (trees.Variable (at 0 36 1) (codes "x")) (trees.Cast (at 0 36 5) (trees.PrimitiveType (at 0 36 6) Int) (trees.Number (at 0 36 11) 1)))) ∷ (trees.ExpressionStatement (at 0 37 1) (trees.Assignment (at 0 37 1) (trees.Variable (at 0 37 1) (codes "b")) (trees.Cast (at 0 37 5) (trees.PrimitiveType (at 0 37 6) Boolean) (trees.Variable (at 0 37 15) (codes "b"))))) ∷ (trees.ExpressionStatement (at 0 38 1) (trees.Assignment (at 0 38 1) (trees.Variable (at 0 38 1) (codes "b")) (trees.InstanceOf (at 0 38 5) (trees.This (at 0 38 5)) (trees.NamedType (at 0 38 21) (codes "A"))))) ∷ (trees.ExpressionStatement (at 0 39 1) (trees.Assignment (at 0 39 1) (trees.Variable (at 0 39 1) (codes "x")) (trees.FieldAccess (at 0 39 5) (trees.ArrayCreation (at 0 39 5) (trees.PrimitiveType (at 0 39 9) Int) (trees.Number (at 0 39 13) 1)) (codes "length")))) ∷ (trees.ExpressionStatement (at 0 40 1) (trees.Assignment (at 0 40 1) (trees.Variable (at 0 40 1) (codes "x")) (trees.ArrayAccess (at 0 40 5) (trees.ArrayCreation (at 0 40 6) (trees.PrimitiveType (at 0 40 10) Int) (trees.Number (at 0 40 14) 1)) (trees.Number (at 0 40 18) 0)))) ∷ []))) ∷ []))) ∷ [])) ∷ []

-- class A { int m(int[] a, A o, B b) {¶a.size = 1;¶A.n();¶o.n();¶n();¶A.x = 1;¶o.x = 1;¶x = 1;¶a.length();¶a[0].n();¶b.m(a, o, b);¶B.m(a, o, b);¶B.t(1);¶b.t(1);¶b.t(true);¶null.m(a);¶null.v = 1;¶(1).v = 1;¶return A.length + a.length.length; } } class B { static int t(int x) { return x; } }
abbrev pub each_missing : List Tree
each_missing = (list_of ((trees.Class (at 0 1 7) (codes "A") Nil (list_of ((trees.Method (at 0 1 15) false (codes "m") (trees.Signature (at 0 1 15) (trees.PrimitiveType (at 0 1 11) Int) (list_of ((trees.Parameter (at 0 1 23) (trees.ArrayType (at 0 1 17) (trees.PrimitiveType (at 0 1 17) Int)) (codes "a")) ∷ (trees.Parameter (at 0 1 28) (trees.NamedType (at 0 1 26) (codes "A")) (codes "o")) ∷ (trees.Parameter (at 0 1 33) (trees.NamedType (at 0 1 31) (codes "B")) (codes "b")) ∷ [])) Nil) (list_of ((trees.ExpressionStatement (at 0 2 1) (trees.Assignment (at 0 2 1) (trees.FieldAccess (at 0 2 1) (trees.Variable (at 0 2 1) (codes "a")) (codes "size")) (trees.Number (at 0 2 10) 1))) ∷ (trees.ExpressionStatement (at 0 3 1) (trees.MethodCall (at 0 3 1) (trees.Variable (at 0 3 1) (codes "A")) (codes "n") Nil)) ∷ (trees.ExpressionStatement (at 0 4 1) (trees.MethodCall (at 0 4 1) (trees.Variable (at 0 4 1) (codes "o")) (codes "n") Nil)) ∷ (trees.ExpressionStatement (at 0 5 1) (trees.Call (at 0 5 1) (codes "n") Nil)) ∷ (trees.ExpressionStatement (at 0 6 1) (trees.Assignment (at 0 6 1) (trees.FieldAccess (at 0 6 1) (trees.Variable (at 0 6 1) (codes "A")) (codes "x")) (trees.Number (at 0 6 7) 1))) ∷ (trees.ExpressionStatement (at 0 7 1) (trees.Assignment (at 0 7 1) (trees.FieldAccess (at 0 7 1) (trees.Variable (at 0 7 1) (codes "o")) (codes "x")) (trees.Number (at 0 7 7) 1))) ∷ (trees.ExpressionStatement (at 0 8 1) (trees.Assignment (at 0 8 1) (trees.Variable (at 0 8 1) (codes "x")) (trees.Number (at 0 8 5) 1))) ∷ (trees.ExpressionStatement (at 0 9 1) (trees.MethodCall (at 0 9 1) (trees.Variable (at 0 9 1) (codes "a")) (codes "length") Nil)) ∷ (trees.ExpressionStatement (at 0 10 1) (trees.MethodCall (at 0 10 1) (trees.ArrayAccess (at 0 10 1) (trees.Variable (at 0 10 1) (codes "a")) (trees.Number (at 0 10 3) 0)) (codes "n") Nil)) ∷ (trees.ExpressionStatement (at 0 11 1) (trees.MethodCall (at 0 11 1) (trees.Variable (at 0 11 1) (codes "b")) (codes "m") (list_of ((trees.Variable (at 0 11 5) (codes "a")) ∷ (trees.Variable (at 0 11 8) (codes "o")) ∷ (trees.Variable (at 0 11 11) (codes "b")) ∷ [])))) ∷ (trees.ExpressionStatement (at 0 12 1) (trees.MethodCall (at 0 12 1) (trees.Variable (at 0 12 1) (codes "B")) (codes "m") (list_of ((trees.Variable (at 0 12 5) (codes "a")) ∷ (trees.Variable (at 0 12 8) (codes "o")) ∷ (trees.Variable (at 0 12 11) (codes "b")) ∷ [])))) ∷ (trees.ExpressionStatement (at 0 13 1) (trees.MethodCall (at 0 13 1) (trees.Variable (at 0 13 1) (codes "B")) (codes "t") (list_of ((trees.Number (at 0 13 5) 1) ∷ [])))) ∷ (trees.ExpressionStatement (at 0 14 1) (trees.MethodCall (at 0 14 1) (trees.Variable (at 0 14 1) (codes "b")) (codes "t") (list_of ((trees.Number (at 0 14 5) 1) ∷ [])))) ∷ (trees.ExpressionStatement (at 0 15 1) (trees.MethodCall (at 0 15 1) (trees.Variable (at 0 15 1) (codes "b")) (codes "t") (list_of ((trees.Truth (at 0 15 5) true) ∷ [])))) ∷ (trees.ExpressionStatement (at 0 16 1) (trees.MethodCall (at 0 16 1) (trees.Null (at 0 16 1)) (codes "m") (list_of ((trees.Variable (at 0 16 8) (codes "a")) ∷ [])))) ∷ (trees.ExpressionStatement (at 0 17 1) (trees.Assignment (at 0 17 1) (trees.FieldAccess (at 0 17 1) (trees.Null (at 0 17 1)) (codes "v")) (trees.Number (at 0 17 10) 1))) ∷ (trees.ExpressionStatement (at 0 18 1) (trees.Assignment (at 0 18 1) (trees.FieldAccess (at 0 18 1) (trees.Number (at 0 18 2) 1) (codes "v")) (trees.Number (at 0 18 9) 1))) ∷ (trees.Return (at 0 19 1) (trees.Binary (at 0 19 8) Add (trees.FieldAccess (at 0 19 8) (trees.Variable (at 0 19 8) (codes "A")) (codes "length")) (trees.FieldAccess (at 0 19 19) (trees.FieldAccess (at 0 19 19) (trees.Variable (at 0 19 19) (codes "a")) (codes "length")) (codes "length")))) ∷ []))) ∷ []))) ∷ (trees.Class (at 0 19 46) (codes "B") Nil (list_of ((trees.Method (at 0 19 61) true (codes "t") (trees.Signature (at 0 19 61) (trees.PrimitiveType (at 0 19 57) Int) (list_of ((trees.Parameter (at 0 19 67) (trees.PrimitiveType (at 0 19 63) Int) (codes "x")) ∷ [])) Nil) (list_of ((trees.Return (at 0 19 72) (trees.Variable (at 0 19 79) (codes "x"))) ∷ []))) ∷ []))) ∷ [])) ∷ []

-- class A { void m() { new B<>(); } }
abbrev pub t1_diamond : List Tree
t1_diamond = (list_of ((trees.Class (at 0 1 7) (codes "A") Nil (list_of ((trees.Method (at 0 1 16) false (codes "m") (trees.Signature (at 0 1 16) (trees.PrimitiveType (at 0 1 16) Void) Nil Nil) (list_of ((trees.ExpressionStatement (at 0 1 22) (trees.ObjectCreation (at 0 1 22) (trees.DiamondType (at 0 1 26) (trees.NamedType (at 0 1 26) (codes "B"))) Nil)) ∷ []))) ∷ []))) ∷ [])) ∷ []

-- class A { int v = 1L; }
abbrev pub t35_long : List Tree
t35_long = (list_of ((trees.Class (at 0 1 7) (codes "A") Nil (list_of ((trees.Field (at 0 1 11) false false (trees.PrimitiveType (at 0 1 11) Int) (list_of ((trees.Declarator (at 0 1 15) (codes "v") (trees.LongNumber (at 0 1 19) 1)) ∷ []))) ∷ []))) ∷ [])) ∷ []

-- class A { long v = 1; }
abbrev pub t35_long_fine : List Tree
t35_long_fine = (list_of ((trees.Class (at 0 1 7) (codes "A") Nil (list_of ((trees.Field (at 0 1 11) false false (trees.PrimitiveType (at 0 1 11) Long) (list_of ((trees.Declarator (at 0 1 16) (codes "v") (trees.Number (at 0 1 20) 1)) ∷ []))) ∷ []))) ∷ [])) ∷ []

-- class A { void m(int i, long l) { i += l; l += i; i <<= l; } }
abbrev pub t17_long_fine : List Tree
t17_long_fine = (list_of ((trees.Class (at 0 1 7) (codes "A") Nil (list_of ((trees.Method (at 0 1 16) false (codes "m") (trees.Signature (at 0 1 16) (trees.PrimitiveType (at 0 1 16) Void) (list_of ((trees.Parameter (at 0 1 22) (trees.PrimitiveType (at 0 1 18) Int) (codes "i")) ∷ (trees.Parameter (at 0 1 30) (trees.PrimitiveType (at 0 1 25) Long) (codes "l")) ∷ [])) Nil) (list_of ((trees.ExpressionStatement (at 0 1 35) (trees.CompoundAssignment (at 0 1 35) Add (trees.Variable (at 0 1 35) (codes "i")) (trees.Variable (at 0 1 40) (codes "l")))) ∷ (trees.ExpressionStatement (at 0 1 43) (trees.CompoundAssignment (at 0 1 43) Add (trees.Variable (at 0 1 43) (codes "l")) (trees.Variable (at 0 1 48) (codes "i")))) ∷ (trees.ExpressionStatement (at 0 1 51) (trees.CompoundAssignment (at 0 1 51) ShiftLeft (trees.Variable (at 0 1 51) (codes "i")) (trees.Variable (at 0 1 57) (codes "l")))) ∷ []))) ∷ []))) ∷ [])) ∷ []

-- class A { int n(int x) { return x; } void m(int i, long l, int[] a, boolean b) {¶i = l;¶i = i + l;¶i = -l;¶i = l << i;¶i = b ? i : l;¶i = a[l];¶a = new int[l];¶i = n(l);¶int x = l;¶l = 9223372036854775808L;¶l = 2147483648;¶b = b & l;¶l = i;¶l = 9223372036854775807L;¶l = 2147483648L;¶l = i + l;¶i = i << l;¶i += l;¶l = b ? i : l;¶i = (int) l;¶b = i < l;¶b = i == l;¶l++;¶l = n(i);¶l = i & l;¶long y = i;¶} }
abbrev pub each_long : List Tree
each_long = (list_of ((trees.Class (at 0 1 7) (codes "A") Nil (list_of ((trees.Method (at 0 1 15) false (codes "n") (trees.Signature (at 0 1 15) (trees.PrimitiveType (at 0 1 11) Int) (list_of ((trees.Parameter (at 0 1 21) (trees.PrimitiveType (at 0 1 17) Int) (codes "x")) ∷ [])) Nil) (list_of ((trees.Return (at 0 1 26) (trees.Variable (at 0 1 33) (codes "x"))) ∷ []))) ∷ (trees.Method (at 0 1 43) false (codes "m") (trees.Signature (at 0 1 43) (trees.PrimitiveType (at 0 1 43) Void) (list_of ((trees.Parameter (at 0 1 49) (trees.PrimitiveType (at 0 1 45) Int) (codes "i")) ∷ (trees.Parameter (at 0 1 57) (trees.PrimitiveType (at 0 1 52) Long) (codes "l")) ∷ (trees.Parameter (at 0 1 66) (trees.ArrayType (at 0 1 60) (trees.PrimitiveType (at 0 1 60) Int)) (codes "a")) ∷ (trees.Parameter (at 0 1 77) (trees.PrimitiveType (at 0 1 69) Boolean) (codes "b")) ∷ [])) Nil) (list_of ((trees.ExpressionStatement (at 0 2 1) (trees.Assignment (at 0 2 1) (trees.Variable (at 0 2 1) (codes "i")) (trees.Variable (at 0 2 5) (codes "l")))) ∷ (trees.ExpressionStatement (at 0 3 1) (trees.Assignment (at 0 3 1) (trees.Variable (at 0 3 1) (codes "i")) (trees.Binary (at 0 3 5) Add (trees.Variable (at 0 3 5) (codes "i")) (trees.Variable (at 0 3 9) (codes "l"))))) ∷ (trees.ExpressionStatement (at 0 4 1) (trees.Assignment (at 0 4 1) (trees.Variable (at 0 4 1) (codes "i")) (trees.Unary (at 0 4 5) Minus (trees.Variable (at 0 4 6) (codes "l"))))) ∷ (trees.ExpressionStatement (at 0 5 1) (trees.Assignment (at 0 5 1) (trees.Variable (at 0 5 1) (codes "i")) (trees.Binary (at 0 5 5) ShiftLeft (trees.Variable (at 0 5 5) (codes "l")) (trees.Variable (at 0 5 10) (codes "i"))))) ∷ (trees.ExpressionStatement (at 0 6 1) (trees.Assignment (at 0 6 1) (trees.Variable (at 0 6 1) (codes "i")) (trees.Conditional (at 0 6 5) (trees.Variable (at 0 6 5) (codes "b")) (trees.Variable (at 0 6 9) (codes "i")) (trees.Variable (at 0 6 13) (codes "l"))))) ∷ (trees.ExpressionStatement (at 0 7 1) (trees.Assignment (at 0 7 1) (trees.Variable (at 0 7 1) (codes "i")) (trees.ArrayAccess (at 0 7 5) (trees.Variable (at 0 7 5) (codes "a")) (trees.Variable (at 0 7 7) (codes "l"))))) ∷ (trees.ExpressionStatement (at 0 8 1) (trees.Assignment (at 0 8 1) (trees.Variable (at 0 8 1) (codes "a")) (trees.ArrayCreation (at 0 8 5) (trees.PrimitiveType (at 0 8 9) Int) (trees.Variable (at 0 8 13) (codes "l"))))) ∷ (trees.ExpressionStatement (at 0 9 1) (trees.Assignment (at 0 9 1) (trees.Variable (at 0 9 1) (codes "i")) (trees.Call (at 0 9 5) (codes "n") (list_of ((trees.Variable (at 0 9 7) (codes "l")) ∷ []))))) ∷ (trees.Local (at 0 10 1) (trees.PrimitiveType (at 0 10 1) Int) (list_of ((trees.Declarator (at 0 10 5) (codes "x") (trees.Variable (at 0 10 9) (codes "l"))) ∷ []))) ∷ (trees.ExpressionStatement (at 0 11 1) (trees.Assignment (at 0 11 1) (trees.Variable (at 0 11 1) (codes "l")) (trees.LongNumber (at 0 11 5) 9223372036854775808))) ∷ (trees.ExpressionStatement (at 0 12 1) (trees.Assignment (at 0 12 1) (trees.Variable (at 0 12 1) (codes "l")) (trees.Number (at 0 12 5) 2147483648))) ∷ (trees.ExpressionStatement (at 0 13 1) (trees.Assignment (at 0 13 1) (trees.Variable (at 0 13 1) (codes "b")) (trees.Binary (at 0 13 5) BitAnd (trees.Variable (at 0 13 5) (codes "b")) (trees.Variable (at 0 13 9) (codes "l"))))) ∷ (trees.ExpressionStatement (at 0 14 1) (trees.Assignment (at 0 14 1) (trees.Variable (at 0 14 1) (codes "l")) (trees.Variable (at 0 14 5) (codes "i")))) ∷ (trees.ExpressionStatement (at 0 15 1) (trees.Assignment (at 0 15 1) (trees.Variable (at 0 15 1) (codes "l")) (trees.LongNumber (at 0 15 5) 9223372036854775807))) ∷ (trees.ExpressionStatement (at 0 16 1) (trees.Assignment (at 0 16 1) (trees.Variable (at 0 16 1) (codes "l")) (trees.LongNumber (at 0 16 5) 2147483648))) ∷ (trees.ExpressionStatement (at 0 17 1) (trees.Assignment (at 0 17 1) (trees.Variable (at 0 17 1) (codes "l")) (trees.Binary (at 0 17 5) Add (trees.Variable (at 0 17 5) (codes "i")) (trees.Variable (at 0 17 9) (codes "l"))))) ∷ (trees.ExpressionStatement (at 0 18 1) (trees.Assignment (at 0 18 1) (trees.Variable (at 0 18 1) (codes "i")) (trees.Binary (at 0 18 5) ShiftLeft (trees.Variable (at 0 18 5) (codes "i")) (trees.Variable (at 0 18 10) (codes "l"))))) ∷ (trees.ExpressionStatement (at 0 19 1) (trees.CompoundAssignment (at 0 19 1) Add (trees.Variable (at 0 19 1) (codes "i")) (trees.Variable (at 0 19 6) (codes "l")))) ∷ (trees.ExpressionStatement (at 0 20 1) (trees.Assignment (at 0 20 1) (trees.Variable (at 0 20 1) (codes "l")) (trees.Conditional (at 0 20 5) (trees.Variable (at 0 20 5) (codes "b")) (trees.Variable (at 0 20 9) (codes "i")) (trees.Variable (at 0 20 13) (codes "l"))))) ∷ (trees.ExpressionStatement (at 0 21 1) (trees.Assignment (at 0 21 1) (trees.Variable (at 0 21 1) (codes "i")) (trees.Cast (at 0 21 5) (trees.PrimitiveType (at 0 21 6) Int) (trees.Variable (at 0 21 11) (codes "l"))))) ∷ (trees.ExpressionStatement (at 0 22 1) (trees.Assignment (at 0 22 1) (trees.Variable (at 0 22 1) (codes "b")) (trees.Binary (at 0 22 5) Less (trees.Variable (at 0 22 5) (codes "i")) (trees.Variable (at 0 22 9) (codes "l"))))) ∷ (trees.ExpressionStatement (at 0 23 1) (trees.Assignment (at 0 23 1) (trees.Variable (at 0 23 1) (codes "b")) (trees.Binary (at 0 23 5) Equal (trees.Variable (at 0 23 5) (codes "i")) (trees.Variable (at 0 23 10) (codes "l"))))) ∷ (trees.ExpressionStatement (at 0 24 1) (trees.Step (at 0 24 1) IncrementBehind (trees.Variable (at 0 24 1) (codes "l")))) ∷ (trees.ExpressionStatement (at 0 25 1) (trees.Assignment (at 0 25 1) (trees.Variable (at 0 25 1) (codes "l")) (trees.Call (at 0 25 5) (codes "n") (list_of ((trees.Variable (at 0 25 7) (codes "i")) ∷ []))))) ∷ (trees.ExpressionStatement (at 0 26 1) (trees.Assignment (at 0 26 1) (trees.Variable (at 0 26 1) (codes "l")) (trees.Binary (at 0 26 5) BitAnd (trees.Variable (at 0 26 5) (codes "i")) (trees.Variable (at 0 26 9) (codes "l"))))) ∷ (trees.Local (at 0 27 1) (trees.PrimitiveType (at 0 27 1) Long) (list_of ((trees.Declarator (at 0 27 6) (codes "y") (trees.Variable (at 0 27 10) (codes "i"))) ∷ []))) ∷ []))) ∷ []))) ∷ [])) ∷ []

-- the results of the definitions
pub record Worked : Type 0 where
  pub c1_two_read : refusal c1_two ≡ Some (class_rule_at 1 0 1 19)
  pub c1_nested_read : refusal c1_nested ≡ Some (class_rule_at 1 1 1 7)
  pub c1_collection_read : refusal c1_collection ≡ Some (class_rule_at 1 0 1 7)
  pub c1_fine_read : refusal c1_fine ≡ None
  pub c2_unknown_read : refusal c2_unknown ≡ Some (class_rule_at 2 0 1 17)
  pub c2_qualified_read : refusal c2_qualified ≡ Some (class_rule_at 2 0 1 48)
  pub c2_fine_read : refusal c2_fine ≡ None
  pub c3_self_read : refusal c3_self ≡ Some (class_rule_at 3 0 1 7)
  pub c3_round_read : refusal c3_round ≡ Some (class_rule_at 3 0 1 7)
  pub c3_fine_read : refusal c3_fine ≡ None
  pub c4_two_read : refusal c4_two ≡ Some (class_rule_at 4 0 1 26)
  pub c4_inherited_read : refusal c4_inherited ≡ Some (class_rule_at 4 0 1 25)
  pub c4_constant_read : refusal c4_constant ≡ Some (class_rule_at 4 0 1 25)
  pub c4_constructors_read : refusal c4_constructors ≡ Some (class_rule_at 4 0 1 19)
  pub c4_fine_read : refusal c4_fine ≡ None
  pub c5_two_read : refusal c5_two ≡ Some (class_rule_at 5 0 1 51)
  pub c5_inherited_read : refusal c5_inherited ≡ Some (class_rule_at 5 0 1 54)
  pub c5_number_read : refusal c5_number ≡ Some (class_rule_at 5 0 1 73)
  pub c5_fine_read : refusal c5_fine ≡ None
  pub c6_object_read : refusal c6_object ≡ Some (class_rule_at 6 0 1 19)
  pub c6_fine_read : refusal c6_fine ≡ None
  pub c7_static_read : refusal c7_static ≡ Some (class_rule_at 7 0 1 58)
  pub c7_result_read : refusal c7_result ≡ Some (class_rule_at 7 0 1 63)
  pub c7_above_read : refusal c7_above ≡ Some (class_rule_at 7 0 1 58)
  pub c7_fine_read : refusal c7_fine ≡ None
  pub c8_fields_read : refusal c8_fields ≡ Some (class_rule_at 8 0 1 243)
  pub c8_fine_read : refusal c8_fine ≡ None
  pub c_order_read : refusal c_order ≡ Some (class_rule_at 2 0 1 43)
  pub t1_unknown_read : refusal t1_unknown ≡ Some (type_rule_at 1 0 1 11)
  pub t1_argument_read : refusal t1_argument ≡ Some (type_rule_at 1 0 1 11)
  pub t1_raw_read : refusal t1_raw ≡ Some (type_rule_at 1 0 1 11)
  pub t1_class_read : refusal t1_class ≡ Some (type_rule_at 1 0 1 11)
  pub t1_deep_read : refusal t1_deep ≡ Some (type_rule_at 1 0 1 41)
  pub t1_new_read : refusal t1_new ≡ Some (type_rule_at 1 0 1 26)
  pub t1_new_raw_read : refusal t1_new_raw ≡ Some (type_rule_at 1 0 1 26)
  pub t1_qualified_read : refusal t1_qualified ≡ Some (type_rule_at 1 0 1 37)
  pub t1_fine_read : refusal t1_fine ≡ None
  pub t1_untyped_read : refusal t1_untyped ≡ Some (type_rule_at 1 0 1 63)
  pub t3_name_read : refusal t3_name ≡ Some (type_rule_at 3 0 1 28)
  pub t3_class_read : refusal t3_class ≡ Some (type_rule_at 3 0 1 28)
  pub t3_ended_read : refusal t3_ended ≡ Some (type_rule_at 3 0 1 37)
  pub t3_own_read : refusal t3_own ≡ None
  pub t3_outer_read : refusal t3_outer ≡ Some (type_rule_at 3 0 1 80)
  pub t3_fine_read : refusal t3_fine ≡ None
  pub t4_two_read : refusal t4_two ≡ Some (type_rule_at 4 0 1 33)
  pub t4_inner_read : refusal t4_inner ≡ Some (type_rule_at 4 0 1 49)
  pub t4_parameters_read : refusal t4_parameters ≡ Some (type_rule_at 4 0 1 29)
  pub t4_for_read : refusal t4_for ≡ Some (type_rule_at 4 0 1 42)
  pub t4_fine_read : refusal t4_fine ≡ None
  pub t5_this_read : refusal t5_this ≡ Some (type_rule_at 5 0 1 33)
  pub t5_field_read : refusal t5_field ≡ Some (type_rule_at 5 0 1 42)
  pub t5_method_read : refusal t5_method ≡ Some (type_rule_at 5 0 1 57)
  pub t5_super_read : refusal t5_super ≡ Some (type_rule_at 5 0 1 79)
  pub t5_constant_read : refusal t5_constant ≡ Some (type_rule_at 5 0 1 39)
  pub t5_fine_read : refusal t5_fine ≡ None
  pub t6_alone_read : refusal t6_alone ≡ Some (type_rule_at 6 0 1 28)
  pub t6_plus_read : refusal t6_plus ≡ Some (type_rule_at 6 0 1 31)
  pub t6_fine_read : refusal t6_fine ≡ None
  pub t7_read : refusal t7 ≡ Some (type_rule_at 7 0 1 28)
  pub t8_read : refusal t8 ≡ Some (type_rule_at 8 0 1 28)
  pub t9_read : refusal t9 ≡ Some (type_rule_at 9 0 1 32)
  pub t10_read : refusal t10 ≡ Some (type_rule_at 10 0 1 35)
  pub t10_unrelated_read : refusal t10_unrelated ≡ Some (type_rule_at 10 0 1 35)
  pub t10_fine_read : refusal t10_fine ≡ None
  pub t11_read : refusal t11 ≡ Some (type_rule_at 11 0 1 28)
  pub t11_fine_read : refusal t11_fine ≡ None
  pub t12_read : refusal t12 ≡ Some (type_rule_at 12 0 1 32)
  pub t13_read : refusal t13 ≡ Some (type_rule_at 13 0 1 32)
  pub t14_read : refusal t14 ≡ Some (type_rule_at 14 0 1 28)
  pub t15_read : refusal t15 ≡ Some (type_rule_at 15 0 1 28)
  pub t15_arms_read : refusal t15_arms ≡ Some (type_rule_at 15 0 1 37)
  pub t15_fine_read : refusal t15_fine ≡ None
  pub t16_read : refusal t16 ≡ Some (type_rule_at 16 0 1 27)
  pub t16_below_read : refusal t16_below ≡ Some (type_rule_at 16 0 1 37)
  pub t17_read : refusal t17 ≡ Some (type_rule_at 17 0 1 31)
  pub t17_fine_read : refusal t17_fine ≡ None
  pub t18_read : refusal t18 ≡ Some (type_rule_at 18 0 1 31)
  pub t19_constant_read : refusal t19_constant ≡ Some (type_rule_at 19 0 1 46)
  pub t19_length_read : refusal t19_length ≡ Some (type_rule_at 19 0 1 29)
  pub t19_call_read : refusal t19_call ≡ Some (type_rule_at 19 0 1 44)
  pub t19_fine_read : refusal t19_fine ≡ None
  pub t20_read : refusal t20 ≡ Some (type_rule_at 20 0 1 28)
  pub t20_unrelated_read : refusal t20_unrelated ≡ Some (type_rule_at 20 0 1 29)
  pub t20_collection_read : refusal t20_collection ≡ Some (type_rule_at 20 0 1 47)
  pub t20_fine_read : refusal t20_fine ≡ None
  pub t21_read : refusal t21 ≡ Some (type_rule_at 21 0 1 37)
  pub t21_unrelated_read : refusal t21_unrelated ≡ Some (type_rule_at 21 0 1 35)
  pub t21_fine_read : refusal t21_fine ≡ None
  pub t22_read : refusal t22 ≡ Some (type_rule_at 22 0 1 28)
  pub t22_constant_read : refusal t22_constant ≡ Some (type_rule_at 22 0 1 52)
  pub t22_static_read : refusal t22_static ≡ Some (type_rule_at 22 0 1 35)
  pub t22_outer_read : refusal t22_outer ≡ Some (type_rule_at 22 0 1 71)
  pub t22_int_read : refusal t22_int ≡ Some (type_rule_at 22 0 1 33)
  pub t22_fine_read : refusal t22_fine ≡ None
  pub t23_read : refusal t23 ≡ Some (type_rule_at 23 0 1 35)
  pub t23_no_array_read : refusal t23_no_array ≡ Some (type_rule_at 23 0 1 31)
  pub t24_unknown_read : refusal t24_unknown ≡ Some (type_rule_at 24 0 1 22)
  pub t24_number_read : refusal t24_number ≡ Some (type_rule_at 24 0 1 27)
  pub t24_type_read : refusal t24_type ≡ Some (type_rule_at 24 0 1 25)
  pub t24_static_read : refusal t24_static ≡ Some (type_rule_at 24 0 1 35)
  pub t24_int_read : refusal t24_int ≡ Some (type_rule_at 24 0 1 27)
  pub t24_fine_read : refusal t24_fine ≡ None
  pub t25_add_read : refusal t25_add ≡ Some (type_rule_at 25 0 1 34)
  pub t25_first_read : refusal t25_first ≡ Some (type_rule_at 25 0 1 34)
  pub t25_contains_read : refusal t25_contains ≡ Some (type_rule_at 25 0 1 44)
  pub t25_clear_read : refusal t25_clear ≡ Some (type_rule_at 25 0 1 34)
  pub t25_diamond_read : refusal t25_diamond ≡ Some (type_rule_at 25 0 1 22)
  pub t25_fine_read : refusal t25_fine ≡ None
  pub t26_number_read : refusal t26_number ≡ Some (type_rule_at 26 0 1 22)
  pub t26_type_read : refusal t26_type ≡ Some (type_rule_at 26 0 1 35)
  pub t26_collection_read : refusal t26_collection ≡ Some (type_rule_at 26 0 1 22)
  pub t26_diamond_read : refusal t26_diamond ≡ Some (type_rule_at 26 0 1 22)
  pub t26_fine_read : refusal t26_fine ≡ None
  pub t27_read : refusal t27 ≡ Some (type_rule_at 27 0 1 32)
  pub t28_while_read : refusal t28_while ≡ Some (type_rule_at 28 0 1 22)
  pub t28_if_read : refusal t28_if ≡ Some (type_rule_at 28 0 1 22)
  pub t28_do_read : refusal t28_do ≡ Some (type_rule_at 28 0 1 22)
  pub t28_for_read : refusal t28_for ≡ Some (type_rule_at 28 0 1 22)
  pub t28_contract_read : refusal t28_contract ≡ Some (type_rule_at 28 0 2 1)
  pub t28_fine_read : refusal t28_fine ≡ None
  pub t29_read : refusal t29 ≡ Some (type_rule_at 29 0 1 26)
  pub t29_fine_read : refusal t29_fine ≡ None
  pub t30_void_read : refusal t30_void ≡ Some (type_rule_at 30 0 1 22)
  pub t30_none_read : refusal t30_none ≡ Some (type_rule_at 30 0 1 21)
  pub t30_type_read : refusal t30_type ≡ Some (type_rule_at 30 0 1 21)
  pub t30_constructor_read : refusal t30_constructor ≡ Some (type_rule_at 30 0 1 17)
  pub t30_fine_read : refusal t30_fine ≡ None
  pub t31_read : refusal t31 ≡ Some (type_rule_at 31 0 1 32)
  pub t31_continue_read : refusal t31_continue ≡ Some (type_rule_at 31 0 1 38)
  pub t32_read : refusal t32 ≡ Some (type_rule_at 32 0 1 41)
  pub t32_argument_read : refusal t32_argument ≡ Some (type_rule_at 32 0 1 42)
  pub t32_initial_read : refusal t32_initial ≡ Some (type_rule_at 32 0 1 43)
  pub t32_fine_read : refusal t32_fine ≡ None
  pub t33_read : refusal t33 ≡ Some (type_rule_at 33 0 1 28)
  pub t33_static_read : refusal t33_static ≡ Some (type_rule_at 33 0 1 79)
  pub t33_fine_read : refusal t33_fine ≡ None
  pub t34_class_read : refusal t34_class ≡ Some (type_rule_at 34 0 1 32)
  pub t34_absent_read : refusal t34_absent ≡ Some (type_rule_at 34 0 1 46)
  pub t34_type_read : refusal t34_type ≡ Some (type_rule_at 34 0 1 52)
  pub t34_none_read : refusal t34_none ≡ Some (type_rule_at 34 0 1 17)
  pub t34_fine_read : refusal t34_fine ≡ None
  pub t35_read : refusal t35 ≡ Some (type_rule_at 35 0 1 15)
  pub t35_constant_read : refusal t35_constant ≡ Some (type_rule_at 35 0 1 28)
  pub t35_fine_read : refusal t35_fine ≡ None
  pub t36_absent_read : refusal t36_absent ≡ Some (type_rule_at 36 0 1 28)
  pub t36_later_read : refusal t36_later ≡ Some (type_rule_at 36 0 1 28)
  pub t36_call_read : refusal t36_call ≡ Some (type_rule_at 36 0 1 57)
  pub t36_divisor_read : refusal t36_divisor ≡ Some (type_rule_at 36 0 1 28)
  pub t36_zero_read : refusal t36_zero ≡ Some (type_rule_at 36 0 1 52)
  pub t36_instance_read : refusal t36_instance ≡ Some (type_rule_at 36 0 1 32)
  pub t36_fine_read : refusal t36_fine ≡ None
  pub t37_static_read : refusal t37_static ≡ Some (type_rule_at 37 0 1 22)
  pub t37_type_read : refusal t37_type ≡ Some (type_rule_at 37 0 1 26)
  pub t38_requires_read : refusal t38_requires ≡ Some (type_rule_at 38 0 2 14)
  pub t38_void_read : refusal t38_void ≡ Some (type_rule_at 38 0 2 13)
  pub t38_old_read : refusal t38_old ≡ Some (type_rule_at 38 0 2 18)
  pub t38_old_requires_read : refusal t38_old_requires ≡ Some (type_rule_at 38 0 2 14)
  pub t38_fine_read : refusal t38_fine ≡ None
  pub t39_write_read : refusal t39_write ≡ Some (type_rule_at 39 0 2 15)
  pub t39_step_read : refusal t39_step ≡ Some (type_rule_at 39 0 2 13)
  pub t39_new_read : refusal t39_new ≡ Some (type_rule_at 39 0 2 13)
  pub t39_array_read : refusal t39_array ≡ Some (type_rule_at 39 0 2 13)
  pub t40_read : refusal t40 ≡ Some (type_rule_at 40 0 2 1)
  pub t40_parameter_read : refusal t40_parameter ≡ None
  pub t_place_read : refusal t_place ≡ Some (type_rule_at 7 0 1 29)
  pub t_rule_read : refusal t_rule ≡ Some (type_rule_at 16 0 1 46)
  pub t_files_read : refusal t_files ≡ Some (type_rule_at 35 1 1 15)
  pub demo_read : refusal demo ≡ None
  pub c5_argument_read : refusal c5_argument ≡ Some (class_rule_at 5 0 1 59)
  pub c5_head_read : refusal c5_head ≡ Some (class_rule_at 5 0 1 59)
  pub c5_spelled_read : refusal c5_spelled ≡ Some (class_rule_at 5 0 1 56)
  pub c7_fine_unknown_read : refusal c7_fine_unknown ≡ Some (type_rule_at 1 0 1 11)
  pub t36_cast_read : refusal t36_cast ≡ Some (type_rule_at 36 0 1 32)
  pub each_operator_read : type_faults each_operator ≡ fault_at 7 0 2 5 ∷ fault_at 7 0 3 5 ∷ fault_at 7 0 4 5 ∷ fault_at 7 0 5 5 ∷ fault_at 7 0 6 5 ∷ fault_at 8 0 7 5 ∷ fault_at 8 0 8 5 ∷ fault_at 8 0 9 5 ∷ fault_at 9 0 10 5 ∷ fault_at 9 0 11 5 ∷ fault_at 9 0 12 5 ∷ fault_at 9 0 13 5 ∷ fault_at 10 0 14 5 ∷ fault_at 10 0 15 5 ∷ fault_at 11 0 16 5 ∷ fault_at 11 0 17 5 ∷ fault_at 11 0 18 5 ∷ fault_at 12 0 19 5 ∷ fault_at 12 0 20 5 ∷ fault_at 13 0 21 5 ∷ fault_at 14 0 22 5 ∷ fault_at 14 0 23 5 ∷ fault_at 14 0 24 5 ∷ []
  pub each_result_read : type_faults each_result ≡ fault_at 16 0 2 1 ∷ fault_at 16 0 3 1 ∷ fault_at 16 0 4 1 ∷ fault_at 16 0 5 1 ∷ fault_at 16 0 6 1 ∷ fault_at 16 0 7 1 ∷ fault_at 16 0 8 1 ∷ fault_at 16 0 9 1 ∷ fault_at 16 0 10 1 ∷ fault_at 16 0 11 1 ∷ fault_at 16 0 12 1 ∷ fault_at 16 0 13 1 ∷ fault_at 16 0 14 1 ∷ fault_at 16 0 15 1 ∷ fault_at 16 0 16 1 ∷ fault_at 16 0 17 1 ∷ fault_at 16 0 18 1 ∷ fault_at 16 0 19 1 ∷ fault_at 16 0 20 1 ∷ fault_at 16 0 21 1 ∷ fault_at 16 0 22 1 ∷ fault_at 16 0 23 1 ∷ fault_at 16 0 24 1 ∷ fault_at 16 0 25 1 ∷ fault_at 16 0 27 1 ∷ fault_at 16 0 28 1 ∷ fault_at 16 0 29 1 ∷ fault_at 16 0 30 1 ∷ []
  pub each_compound_read : type_faults each_compound ≡ fault_at 17 0 2 1 ∷ fault_at 17 0 3 1 ∷ fault_at 17 0 4 1 ∷ fault_at 17 0 5 1 ∷ fault_at 17 0 6 1 ∷ fault_at 17 0 7 1 ∷ fault_at 17 0 8 1 ∷ fault_at 17 0 9 1 ∷ fault_at 17 0 10 1 ∷ fault_at 17 0 11 1 ∷ fault_at 17 0 12 1 ∷ []
  pub each_step_read : type_faults each_step ≡ fault_at 18 0 2 1 ∷ fault_at 18 0 3 1 ∷ fault_at 19 0 4 1 ∷ fault_at 19 0 5 1 ∷ fault_at 19 0 6 1 ∷ fault_at 32 0 11 3 ∷ []
  pub each_type_read : type_faults each_type ≡ fault_at 1 0 2 1 ∷ fault_at 1 0 6 1 ∷ fault_at 1 0 7 1 ∷ fault_at 1 0 8 1 ∷ fault_at 1 0 9 1 ∷ fault_at 1 0 10 1 ∷ fault_at 1 0 11 1 ∷ fault_at 1 0 12 1 ∷ fault_at 1 0 13 1 ∷ fault_at 1 0 14 9 ∷ fault_at 1 0 16 1 ∷ fault_at 1 0 17 1 ∷ []
  pub each_cast_read : type_faults each_cast ≡ fault_at 20 0 4 5 ∷ fault_at 20 0 5 5 ∷ fault_at 20 0 6 5 ∷ fault_at 20 0 7 5 ∷ fault_at 20 0 8 5 ∷ fault_at 20 0 9 5 ∷ fault_at 20 0 10 5 ∷ fault_at 20 0 11 5 ∷ fault_at 20 0 13 5 ∷ fault_at 21 0 16 5 ∷ fault_at 21 0 17 5 ∷ fault_at 21 0 18 5 ∷ fault_at 21 0 20 5 ∷ fault_at 21 0 22 5 ∷ []
  pub each_call_read : type_faults each_call ≡ fault_at 25 0 4 1 ∷ fault_at 25 0 5 1 ∷ fault_at 25 0 6 1 ∷ fault_at 25 0 8 1 ∷ fault_at 25 0 10 1 ∷ fault_at 25 0 13 1 ∷ fault_at 25 0 15 1 ∷ fault_at 25 0 16 1 ∷ fault_at 25 0 17 1 ∷ fault_at 16 0 23 1 ∷ fault_at 16 0 24 1 ∷ fault_at 25 0 25 1 ∷ fault_at 24 0 26 1 ∷ fault_at 24 0 27 1 ∷ []
  pub each_loop_read : type_faults each_loop ≡ fault_at 31 0 2 1 ∷ fault_at 31 0 4 1 ∷ fault_at 31 0 6 1 ∷ fault_at 31 0 8 1 ∷ fault_at 31 0 10 1 ∷ fault_at 28 0 11 1 ∷ fault_at 28 0 12 1 ∷ fault_at 28 0 13 1 ∷ fault_at 28 0 14 1 ∷ fault_at 28 0 15 1 ∷ []
  pub each_contract_read : type_faults each_contract ≡ fault_at 38 0 2 14 ∷ fault_at 28 0 3 1 ∷ fault_at 28 0 4 1 ∷ fault_at 38 0 5 14 ∷ fault_at 38 0 7 18 ∷ fault_at 38 0 8 18 ∷ fault_at 39 0 10 13 ∷ fault_at 39 0 11 15 ∷ fault_at 39 0 12 15 ∷ fault_at 39 0 13 14 ∷ fault_at 39 0 14 14 ∷ fault_at 39 0 15 14 ∷ fault_at 40 0 17 1 ∷ fault_at 5 0 18 13 ∷ fault_at 38 0 19 13 ∷ fault_at 3 0 21 24 ∷ []
  pub each_constant_read : type_faults each_constant ≡ fault_at 36 0 3 18 ∷ fault_at 37 0 4 12 ∷ fault_at 37 0 5 16 ∷ fault_at 36 0 6 18 ∷ fault_at 35 0 8 18 ∷ fault_at 36 0 10 18 ∷ fault_at 36 0 12 22 ∷ fault_at 36 0 14 18 ∷ fault_at 36 0 15 22 ∷ fault_at 36 0 17 18 ∷ fault_at 37 0 18 18 ∷ fault_at 36 0 19 12 ∷ fault_at 1 0 20 14 ∷ []
  pub each_return_read : type_faults each_return ≡ fault_at 30 0 3 1 ∷ fault_at 30 0 6 1 ∷ fault_at 30 0 7 1 ∷ fault_at 30 0 10 1 ∷ fault_at 30 0 14 1 ∷ fault_at 30 0 16 1 ∷ []
  pub each_static_read : type_faults each_static ≡ fault_at 5 0 2 9 ∷ fault_at 5 0 3 5 ∷ fault_at 5 0 4 5 ∷ fault_at 24 0 7 5 ∷ fault_at 22 0 10 5 ∷ fault_at 22 0 12 5 ∷ fault_at 33 0 15 5 ∷ fault_at 33 0 16 5 ∷ fault_at 3 0 19 8 ∷ fault_at 5 0 20 8 ∷ []
  pub each_nested_read : type_faults each_nested ≡ fault_at 3 0 13 8 ∷ []
  pub each_local_read : type_faults each_local ≡ fault_at 4 0 2 5 ∷ fault_at 4 0 3 16 ∷ fault_at 4 0 4 7 ∷ fault_at 4 0 6 34 ∷ fault_at 29 0 7 27 ∷ fault_at 4 0 8 24 ∷ fault_at 4 0 9 41 ∷ fault_at 29 0 10 36 ∷ fault_at 29 0 11 3 ∷ fault_at 29 0 12 33 ∷ fault_at 29 0 12 55 ∷ fault_at 1 0 13 1 ∷ []
  pub family_read : refusal family ≡ None
  pub operator_values_read : map (λ k. k.value) (values_of (table_of operator_values)) ≡ Whole (negsuc 20) ∷ Whole (negsuc 2) ∷ Whole (negsuc 0) ∷ Whole (negsuc 2147483647) ∷ Whole (pos 2147483647) ∷ Whole (pos 2) ∷ Whole (negsuc 2) ∷ Whole (pos 2147483645) ∷ Whole (pos 8) ∷ Whole (pos 6) ∷ Whole (pos 15) ∷ Whole (negsuc 2147483647) ∷ Whole (pos 0) ∷ Whole (pos 0) ∷ Whole (negsuc 10) ∷ Whole (negsuc 8) ∷ Whole (negsuc 2147483647) ∷ Whole (pos 2) ∷ Whole (pos 2) ∷ Whole (pos 65536) ∷ Whole (negsuc 2) ∷ Whole (pos 1) ∷ Whole (negsuc 5) ∷ Whole (pos 0) ∷ Whole (negsuc 4) ∷ Whole (pos 5) ∷ []
  pub boolean_values_read : map (λ k. k.value) (values_of (table_of boolean_values)) ≡ Holds true ∷ Holds false ∷ Holds false ∷ Holds true ∷ Holds true ∷ Holds false ∷ Holds true ∷ Holds false ∷ Holds true ∷ Holds false ∷ Holds false ∷ Holds true ∷ Holds true ∷ Holds false ∷ Holds false ∷ Holds true ∷ Holds false ∷ Holds true ∷ Holds false ∷ Holds true ∷ Holds true ∷ Holds false ∷ Holds false ∷ Holds true ∷ Holds true ∷ Holds false ∷ Holds false ∷ Holds true ∷ Holds true ∷ Holds false ∷ Holds true ∷ Holds true ∷ Holds true ∷ Holds false ∷ Holds true ∷ Whole (pos 1) ∷ Whole (pos 2) ∷ Whole (pos 3) ∷ Holds true ∷ Holds true ∷ []
  pub ordered_values_read : map (λ k. k.value) (values_of (table_of ordered_values)) ≡ Whole (pos 1) ∷ Whole (pos 2) ∷ Whole (pos 3) ∷ Whole (pos 31) ∷ []
  pub c3_fine_deep_read : refusal c3_fine_deep ≡ None
  pub c1_case_read : refusal c1_case ≡ None
  pub each_role_read : type_faults each_role ≡ fault_at 32 0 4 5 ∷ fault_at 32 0 5 1 ∷ fault_at 32 0 6 7 ∷ fault_at 32 0 7 5 ∷ fault_at 32 0 8 1 ∷ fault_at 32 0 9 3 ∷ fault_at 32 0 10 7 ∷ fault_at 32 0 11 13 ∷ fault_at 32 0 12 6 ∷ fault_at 32 0 13 1 ∷ fault_at 32 0 14 5 ∷ fault_at 32 0 15 9 ∷ fault_at 32 0 16 9 ∷ fault_at 32 0 17 5 ∷ fault_at 32 0 18 6 ∷ fault_at 32 0 19 5 ∷ fault_at 32 0 20 8 ∷ fault_at 32 0 21 16 ∷ fault_at 32 0 22 11 ∷ fault_at 32 0 24 9 ∷ fault_at 6 0 26 11 ∷ fault_at 6 0 27 8 ∷ fault_at 6 0 28 8 ∷ fault_at 6 0 29 11 ∷ fault_at 6 0 31 6 ∷ fault_at 6 0 32 12 ∷ fault_at 32 0 33 8 ∷ []
  pub shifted_values_read : map (λ k. k.value) (values_of (table_of shifted_values)) ≡ Whole (negsuc 2147483647) ∷ Whole (pos 1) ∷ Whole (pos 1) ∷ Whole (pos 16) ∷ Whole (pos 1) ∷ Whole (pos 1) ∷ Whole (negsuc 1) ∷ Whole (pos 0) ∷ Whole (pos 2147483647) ∷ Whole (pos 0) ∷ Whole (pos 0) ∷ Whole (negsuc 67153018) ∷ []
  pub each_minus_read : type_faults each_minus ≡ fault_at 6 0 2 7 ∷ fault_at 6 0 3 7 ∷ fault_at 6 0 4 15 ∷ fault_at 6 0 5 7 ∷ fault_at 6 0 6 14 ∷ fault_at 6 0 7 10 ∷ fault_at 6 0 8 7 ∷ fault_at 6 0 9 14 ∷ fault_at 6 0 10 12 ∷ fault_at 6 0 11 11 ∷ fault_at 6 0 12 12 ∷ fault_at 6 0 13 7 ∷ fault_at 6 0 14 7 ∷ fault_at 6 0 15 7 ∷ fault_at 6 0 17 7 ∷ []
  pub each_void_read : type_faults each_void ≡ fault_at 32 0 2 9 ∷ fault_at 32 0 3 5 ∷ fault_at 32 0 4 3 ∷ fault_at 32 0 5 7 ∷ fault_at 32 0 6 1 ∷ fault_at 32 0 7 5 ∷ fault_at 32 0 8 1 ∷ fault_at 32 0 9 1 ∷ fault_at 32 0 10 3 ∷ fault_at 32 0 11 6 ∷ fault_at 32 0 12 7 ∷ fault_at 32 0 14 9 ∷ fault_at 32 0 16 5 ∷ fault_at 32 0 17 5 ∷ fault_at 32 0 18 10 ∷ fault_at 32 0 18 22 ∷ fault_at 32 0 18 29 ∷ []
  pub t34_void_read : refusal t34_void ≡ Some (type_rule_at 32 0 1 71)
  pub t28_void_read : refusal t28_void ≡ Some (type_rule_at 32 0 2 14)
  pub c5_second_read : refusal c5_second ≡ Some (class_rule_at 5 0 1 63)
  pub t6_condition_read : refusal t6_condition ≡ Some (type_rule_at 6 0 1 30)
  pub each_typed_read : type_faults each_typed ≡ []
  pub each_missing_read : type_faults each_missing ≡ fault_at 22 0 2 1 ∷ fault_at 24 0 3 1 ∷ fault_at 24 0 4 1 ∷ fault_at 24 0 5 1 ∷ fault_at 22 0 6 1 ∷ fault_at 22 0 7 1 ∷ fault_at 3 0 8 1 ∷ fault_at 24 0 9 1 ∷ fault_at 24 0 10 1 ∷ fault_at 24 0 11 1 ∷ fault_at 24 0 12 1 ∷ fault_at 24 0 15 1 ∷ fault_at 24 0 16 1 ∷ fault_at 22 0 17 1 ∷ fault_at 22 0 18 1 ∷ fault_at 22 0 19 8 ∷ fault_at 22 0 19 19 ∷ []
  pub t1_diamond_read : refusal t1_diamond ≡ Some (type_rule_at 1 0 1 26)
  pub t35_long_read : refusal t35_long ≡ Some (type_rule_at 35 0 1 15)
  pub t35_long_fine_read : refusal t35_long_fine ≡ None
  pub t17_long_fine_read : refusal t17_long_fine ≡ None
  pub each_long_read : type_faults each_long ≡ fault_at 16 0 2 1 ∷ fault_at 16 0 3 1 ∷ fault_at 16 0 4 1 ∷ fault_at 16 0 5 1 ∷ fault_at 16 0 6 1 ∷ fault_at 23 0 7 5 ∷ fault_at 27 0 8 5 ∷ fault_at 24 0 9 5 ∷ fault_at 29 0 10 5 ∷ fault_at 6 0 11 5 ∷ fault_at 6 0 12 5 ∷ fault_at 11 0 13 5 ∷ []
