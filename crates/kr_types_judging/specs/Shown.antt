-- Between crates: the facts that the code knows of nodes, as the typing rules have them.
use Rattle.std.specs.Prelude.{◌≡◌, ℕ, ◌<◌, Bool, true, ◌&&◌, ◌||◌, not, if◌then◌else◌, List, [], Option, Some, None, map, codes}
use Rattle.kr_base.specs.Places.{nowhere}
use Rattle.kr_ast.specs.Arena.{Arena, root}
use Rattle.kr_ast.specs.Tree.{NamedType}
use Rattle.kr_classes_table.specs.Types.{JavaType, is_collection, is_known, is_reference, is_void}
use Rattle.kr_classes_table.specs.Table.{Table, are_related, headings_of, is_assignable, type_named}
use Rattle.kr_classes_table.specs.Rules as table
use Rattle.kr_types_meaning.specs.Promotion.{are_numbers}
use Rattle.kr_types_meaning.specs.Rules as rules
use Rattle.kr_types_meaning.specs.Scopes.{Scope}
use Rattle.kr_types_meaning.specs.Typing.{joined}
use Rattle.kr_types_meaning.specs.Noting as noting
use Rattle.kr_types_scopes.specs.Settings.{Setting, scope_in}
use Rattle.kr_types_scopes.specs.declared.within.Within.{Within}
use Rattle.kr_types_scopes.specs.declared.within.Binding.{Binding}
use Rattle.kr_classes_members.specs.Shown.{table_in}
use Rattle.kr_classes_members.specs.Kept.{AreMembers}
use Rattle.kr_classes_members.specs.declared.members.Members.{Members}
use Rattle.kr_classes_names.specs.Types.{TypeList, IsTypeNumber, type_at, count}
use Rattle.kr_types_judging.specs.Numbers.{rule_number}
use Rattle.kr_types_judging.specs.declared.known.Typed.{Typed}
use Rattle.kr_types_judging.specs.declared.known.Typed.TheVariants as typed
use Rattle.kr_types_judging.specs.declared.known.Known.{Known}
use Rattle.kr_types_judging.specs.declared.known.Known.TheVariants as known
use Rattle.kr_types_judging.specs.declared.known.Judgement.{Judgement}
use Rattle.kr_types_judging.specs.declared.known.Judgement.TheVariants as verdicts
use Rattle.kr_types_judging.specs.declared.notes.Fault.{Fault}
use Rattle.kr_types_judging.specs.declared.notes.Note.{Note}

abbrev pub typed_shown : TypeList → Typed → rules.Typed
typed_shown l typed.Untyped = rules.Untyped
typed_shown l (typed.Value n) = rules.Value (type_at l n)
typed_shown l (typed.Variable n) = rules.Variable (type_at l n)

abbrev pub verdict_shown : TypeList → Judgement → rules.Judgement
verdict_shown l (verdicts.Fits t) = rules.Fits (typed_shown l t)
verdict_shown l (verdicts.Breaks r) = rules.Breaks (rule_number r)

-- a list's values, of which the rest's are known
abbrev pub known_shown : TypeList → (ℕ → rules.Typed) → Known → rules.Typed
known_shown l look (known.One t) = typed_shown l t
known_shown l look known.Absent = rules.Values []
known_shown l look (known.More first rest) = joined (rules.Value (type_at l first)) (look rest)

abbrev pub fault_shown : Fault → table.Fault
fault_shown f = record { place = f.place; rule = rule_number f.rule }

abbrev pub least_shown : Option Fault → Option table.Fault
least_shown None = None
least_shown (Some f) = Some (fault_shown f)

abbrev pub note_shown : TypeList → (ℕ → rules.Typed) → Note → noting.Note
note_shown l look n = noting.note (known_shown l look n.known) (least_shown n.least)

-- the types that it speaks of are there
abbrev pub IsTypedWithin : TypeList → Typed → Type 0
IsTypedWithin l typed.Untyped = Unit {0}
IsTypedWithin l (typed.Value n) = n < count l
IsTypedWithin l (typed.Variable n) = n < count l

abbrev pub IsVerdictWithin : TypeList → Judgement → Type 0
IsVerdictWithin l (verdicts.Fits t) = IsTypedWithin l t
IsVerdictWithin l (verdicts.Breaks r) = Unit {0}

abbrev pub IsKnownWithin : TypeList → Known → Type 0
IsKnownWithin l (known.One t) = IsTypedWithin l t
IsKnownWithin l known.Absent = Unit {0}
IsKnownWithin l (known.More first rest) = first < count l

abbrev pub IsNoteWithin : TypeList → Note → Type 0
IsNoteWithin l n = IsKnownWithin l n.known

-- it isn't a list of one value or more, so that it speaks of no other node
abbrev pub HasNoRest : Known → Type 0
HasNoRest (known.More first rest) = ⊥
HasNoRest k = Unit {0}

-- in every scope of the program, the verdict is what the rule says
abbrev pub Says : Members → TypeList → Within → Judgement → (Scope → rules.Judgement) → Type 0
Says members l here v rule = (files : List Arena) (g : Setting) (bs : List Binding) → AreMembers files members → g.table ≡ table_in files → verdict_shown l v ≡ rule (scope_in g bs here)

-- a variable takes a value
abbrev pub goes_into : Table → JavaType → JavaType → Bool
goes_into t to from = not (is_known to) || is_assignable t from to

abbrev pub are_related_references : Table → JavaType → JavaType → Bool
are_related_references t a b = is_reference a && is_reference b && are_related t a b

abbrev pub are_comparable : Table → JavaType → JavaType → Bool
are_comparable t a b = are_numbers a b || rules.both_boolean a b || are_related_references t a b

abbrev pub cast_fits : Table → JavaType → JavaType → Bool
cast_fits t to from = are_numbers to from || rules.both_boolean to from || (are_related_references t from to && not (is_collection to) && not (is_collection from))

-- an initial value, if there is one, fits the declared type
abbrev pub initial_goes_into : Table → JavaType → Option JavaType → Bool
initial_goes_into t to None = true
initial_goes_into t to (Some from) = goes_into t to from

-- a method with this result type may return so
abbrev pub returned : Table → JavaType → Option JavaType → Bool
returned t to None = is_void to || not (is_known to)
returned t to (Some from) = goes_into t to from

-- the verdict on a constant of this type
abbrev pub constant_says : Table → JavaType → Bool → Bool → Option JavaType → rules.Judgement
constant_says t to is_final has_value from =
    if is_known to then rules.ask (initial_goes_into t to from) 35 (rules.ask has_value 36 (rules.ask (is_final && rules.is_simple to) 37 rules.fine)) else rules.fine

-- the number of the type that `Throwable` means
abbrev pub IsThrowable : List Arena → TypeList → ℕ → Type 0
IsThrowable files l n = IsTypeNumber l n (type_named (headings_of (map root files)) (NamedType nowhere (codes "Throwable")))
