-- Lines that fit in a table fit in the larger one.
use Rattle.std.proofs.Common.{◌≡◌, refl, sym, ap, ◌∙◌, subst, ℕ, true, List, [], ◌∷◌}
use Rattle.std.specs.Prelude.{pos, negsuc}
use Rattle.kr_base.specs.Places.{nowhere}
use Rattle.kr_classes_table.specs.Types.{JavaType, ArrayType, is_known}
use Rattle.kr_classes_table.specs.Table.{Table, Field}
use Rattle.kr_types_meaning.specs.Typing.{outside}
use Rattle.kr_emit_laws.specs.BuilderTree.{type_tree}
use Rattle.kr_emit_laws.specs.Syntax.{Builder, Line, Creates, CreatesArray, SetsField, SetsElement, Operand, TypeName}
use Rattle.kr_emit_meaning.specs.Buildable.{builders_name}
use Rattle.kr_emit_laws.specs.TypingBeside.{FitLaw}
use Rattle.kr_emit_laws.specs.Fitting.{meant_type, GoesInto, IsCreated, HasField, Fits, types_after, LinesFit, BuilderFits}
use Rattle.kr_emit_laws.specs.Larger.{IsLarger}
use Rattle.kr_emit_laws.proofs.TypingNames.{IsFree, known_same}
use Rattle.kr_emit_laws.proofs.Rules.{assignable_same, parameters_same}

module _ (t u : Table) (w : List ℕ) (free : IsFree w) (g : IsLarger t u w) where
  meant_kept : (k : TypeName) → is_known (meant_type t k) ≡ true → meant_type u k ≡ meant_type t k
  meant_kept k e = known_same t.headings u.headings w free g.names (type_tree nowhere k) e

  goes_kept : (types : List JavaType) (v : Operand) (a : JavaType) → GoesInto t types v a → GoesInto u types v a
  goes_kept types v a h = record { type = h.type; operand = h.operand; assignable = assignable_same t u w free g h.type a ∙ h.assignable }

  field_kept : (types : List JavaType) (n : ℕ) (name : List ℕ) (field : Field) → HasField t types n name field → HasField u types n name field
  field_kept types n name field h = record { class = h.class; local = h.local; found = g.fields h.class name ∙ h.found; instance = h.instance; known = h.known }

  created_kept : (k : TypeName) → IsCreated t k → IsCreated u k
  created_kept k h = record {
    class = h.class;
    named = meant_kept k (ap is_known h.named) ∙ h.named;
    plain = parameters_same t u w free g (outside t) h.class ∙ h.plain;
  }

  line_kept : (types : List JavaType) (line : Line) → Fits t types line → Fits u types line
  line_kept types (Creates k n) f = (f.0, created_kept k f.1)
  line_kept types (CreatesArray k n (pos l)) f = (f.0, ap is_known (meant_kept k f.1) ∙ f.1, f.2)
  line_kept types (CreatesArray k n (negsuc l)) f = absurd f
  line_kept types (SetsField n name v) f = (f.0, field_kept types n name f.0 f.1, goes_kept types v f.0.type f.2)
  line_kept types (SetsElement n i v) f = (f.0, f.1, f.2, f.3, goes_kept types v f.0 f.4)

  after_kept : (types : List JavaType) (line : Line) → Fits t types line → types_after u types line ≡ types_after t types line
  after_kept types (Creates k n) f = ap (λ (a : JavaType). a ∷ types) (meant_kept k (ap is_known f.1.named))
  after_kept types (CreatesArray k n (pos l)) f = ap (λ (a : JavaType). ArrayType a ∷ types) (meant_kept k f.1)
  after_kept types (CreatesArray k n (negsuc l)) f = absurd f
  after_kept types (SetsField n name v) f = refl
  after_kept types (SetsElement n i v) f = refl

  lines_kept : (result : JavaType) (types : List JavaType) (lines : List Line) → LinesFit t result types lines → LinesFit u result types lines
  lines_kept result types [] h = record { type = h.type; local = h.local; known = h.known; assignable = assignable_same t u w free g h.type result ∙ h.assignable }
  lines_kept result types (line ∷ lines) h =
      (line_kept types line h.0, subst (λ (ts : List JavaType). LinesFit u result ts lines) (sym (after_kept types line h.0)) (lines_kept result (types_after t types line) lines h.1))

  pub builder_kept : (b : Builder) → BuilderFits t b → BuilderFits u b
  builder_kept b h =
      let same = meant_kept b.type h.known in
      record { known = ap is_known same ∙ h.known; few = h.few; lines = subst (λ (a : JavaType). LinesFit u a [] b.lines) (sym same) (lines_kept (meant_type t b.type) [] b.lines h.lines) }

pub fit : FitLaw
fit table larger b g h = builder_kept table larger builders_name (record { named = refl; set = refl; list = refl; throwable = refl }) g b h
