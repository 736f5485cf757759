-- The values of a list, gathered from its front.
use Rattle.std.proofs.Common.{◌≡◌, refl, sym, ap, ◌∙◌, ℕ, ◌+◌, ◌<◌, List, [], ◌∷◌, ◌++◌, length, map, get_or}
use Rattle.std.specs.Prelude.{Some, None, slice_get}
use Rattle.std.proofs.lemmas.List.{map-append}
use Rattle.std.proofs.lemmas.Option.{slice_get-get_or}
use Rattle.kr_classes_table.specs.Types.{JavaType}
use Rattle.kr_types_meaning.specs.Rules as rules
use Rattle.kr_types_meaning.specs.Typing.{joined}
use Rattle.kr_types_meaning.specs.Noting as noting
use Rattle.kr_classes_names.specs.Types.{TypeList, type_at}
use Rattle.kr_types_judging.specs.declared.known.Typed.{Typed}
use Rattle.kr_types_judging.specs.declared.known.Typed.TheVariants as typed
use Rattle.kr_types_judging.specs.declared.known.Known.{Known}
use Rattle.kr_types_judging.specs.declared.known.Known.TheVariants as known
use Rattle.kr_types_judging.specs.declared.notes.Note.{Note}
use Rattle.kr_types_judging.specs.Shown.{IsKnownWithin, known_shown}
use Rattle.kr_types_expressions.specs.Notes.{AreNotesWithin, IsRestBelow, typed_in}
use Rattle.kr_types_expressions.specs.Parts.{values_in}
use Rattle.kr_types_expressions.proofs.Notes.{shown_at}

-- values followed by the facts known of a list
abbrev pub before : List JavaType → rules.Typed → rules.Typed
before [] x = x
before (t ∷ ts) x = joined (rules.Value t) (before ts x)

pub before_more : (ts : List JavaType) (t : JavaType) (x : rules.Typed) → before (ts ++ t ∷ []) x ≡ before ts (joined (rules.Value t) x)
before_more [] t x = refl
before_more (s ∷ ts) t x = ap (joined (rules.Value s)) (before_more ts t x)

pub before_end : (ts : List JavaType) → before ts (rules.Values []) ≡ rules.Values ts
before_end [] = refl
before_end (t ∷ ts) = ap (joined (rules.Value t)) (before_end ts)

none_joined : (t : JavaType) (x : rules.Typed) → values_in x ≡ None → values_in (joined (rules.Value t) x) ≡ None
none_joined t (rules.Values ts) e = absurd (cc)
none_joined t rules.Untyped e = refl
none_joined t (rules.Value u) e = refl
none_joined t (rules.Variable u) e = refl

pub before_none : (ts : List JavaType) (x : rules.Typed) → values_in x ≡ None → values_in (before ts x) ≡ None
before_none [] x e = e
before_none (t ∷ ts) x e = none_joined t (before ts x) (before_none ts x e)

one_is_none : (l : TypeList) (look : ℕ → rules.Typed) (t : Typed) → values_in (known_shown l look (known.One t)) ≡ None
one_is_none l look typed.Untyped = refl
one_is_none l look (typed.Value n) = refl
one_is_none l look (typed.Variable n) = refl

-- how many nodes may follow
abbrev pub nodes_left : Known → ℕ
nodes_left (known.More first rest) = rest + 1
nodes_left k = 0

-- ---- from a list's first value to its rest

module _ (l : TypeList) (ns : List Note) (w : AreNotesWithin l ns) (first rest : ℕ) (d : Note) (below : rest < length ns) where
  there : slice_get ns rest ≡ Some (get_or ns rest d)
  there = slice_get-get_or ns rest d below

  pub rest_within : IsKnownWithin l (get_or ns rest d).known
  rest_within = w.within rest (get_or ns rest d) there

  pub rest_below : IsRestBelow rest (get_or ns rest d).known
  rest_below = w.below rest (get_or ns rest d) there

  pub rest_shown : known_shown l (typed_in l ns) (known.More first rest) ≡ joined (rules.Value (type_at l first)) (known_shown l (typed_in l ns) (get_or ns rest d).known)
  rest_shown = ap (λ (x : noting.Note). joined (rules.Value (type_at l first)) x.typed) (shown_at l ns w rest (get_or ns rest d) there)

pub one_more : (l : TypeList) (ns : List Note) (found more : List ℕ) (first rest : ℕ) (at next : Known) (x : rules.Typed) → at ≡ known.More first rest → more ≡ found ++ first ∷ []
    → known_shown l (typed_in l ns) (known.More first rest) ≡ joined (rules.Value (type_at l first)) (known_shown l (typed_in l ns) next)
    → before (map (type_at l) found) (known_shown l (typed_in l ns) at) ≡ x → before (map (type_at l) more) (known_shown l (typed_in l ns) next) ≡ x
one_more l ns found more first rest at next x is m step so_far =
    ap (λ ks. before (map (type_at l) ks) (known_shown l (typed_in l ns) next)) m
    ∙ ap (λ ts. before ts (known_shown l (typed_in l ns) next)) (map-append (type_at l) found (first ∷ []))
    ∙ before_more (map (type_at l) found) (type_at l first) (known_shown l (typed_in l ns) next)
    ∙ ap (before (map (type_at l) found)) (sym step)
    ∙ sym (ap (λ k. before (map (type_at l) found) (known_shown l (typed_in l ns) k)) is)
    ∙ so_far

pub nothing_left : (l : TypeList) (look : ℕ → rules.Typed) (at : Known) → ((x y : ℕ) → at ≡ known.More x y → ⊥) → (at ≡ known.Absent → ⊥) → values_in (known_shown l look at) ≡ None
nothing_left l look (known.More first rest) m a = absurd (m first rest refl)
nothing_left l look known.Absent m a = absurd (a refl)
nothing_left l look (known.One t) m a = one_is_none l look t
