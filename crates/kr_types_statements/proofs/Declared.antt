-- The rules on a declared name are those of its scope.
use Rattle.std.proofs.Common.{◌≡◌, ◌∙◌, refl, ap, ℕ, List, Bool}
use Rattle.std.specs.Prelude.{Option, Some, None, is_some, if◌then◌else◌, ◌&&◌}
use Rattle.kr_base.specs.declared.place.Place.{Place}
use Rattle.kr_classes_table.specs.Types.{JavaType, is_known}
use Rattle.kr_classes_table.specs.Table.{Table}
use Rattle.kr_classes_table.specs.Constants.{value_at}
use Rattle.kr_types_meaning.specs.Rules.{Typed, Untyped, Value, Variable, Values, Judgement, ask, declaration_rule, fine, initial_fits, is_new, is_simple}
use Rattle.kr_types_meaning.specs.Scopes.{Scope, Declaring, Locals, Fields, Constants, meant}
use Rattle.kr_types_meaning.specs.Typing.{on_maybe}
use Rattle.kr_types_judging.specs.Shown.{initial_goes_into}
use Rattle.kr_types_statements.specs.Declared.{declares}
use Rattle.kr_types_statements.specs.Maybe.{with_maybe}

fits_is : (s : Scope) (t : Option JavaType) → initial_goes_into s.table s.declared t ≡ initial_fits s t
fits_is s None = refl
fits_is s (Some t) = refl

pub declares_is : (s : Scope) (d : Declaring) (p : Place) (n : List ℕ) (t : Option JavaType) → declares s.table d s.declared (is_new s n (meant s n)) (is_some (value_at s.values p)) t ≡ declaration_rule s d p n t
declares_is s Locals p n t = ap (λ (b : Bool). ask (is_new s n (meant s n)) 4 (ask b 29 fine)) (fits_is s t)
declares_is s Fields p n t = ap (λ (b : Bool). ask b 35 fine) (fits_is s t)
declares_is s (Constants f) p n t =
    ap (λ (b : Bool). if is_known s.declared then ask b 35 (ask (is_some (value_at s.values p)) 36 (ask (f && is_simple s.declared) 37 fine)) else fine) (fits_is s t)

pub maybe_same : (f g : Option JavaType → Judgement) → ((t : Option JavaType) → f t ≡ g t) → (x : Typed) → on_maybe f x ≡ on_maybe g x
maybe_same f g h Untyped = refl
maybe_same f g h (Value t) = h (Some t)
maybe_same f g h (Variable t) = h (Some t)
maybe_same f g h (Values ts) = h None

-- equal premises give equal verdicts
pub said_likewise : (t : Table) (o : Option (Option JavaType)) (v : Judgement) (d e : Declaring) (x y : JavaType) (new old has had : Bool) → v ≡ with_maybe (declares t d x new has) o → d ≡ e → x ≡ y → new ≡ old → has ≡ had → v ≡ with_maybe (declares t e y old had) o
said_likewise t o v d e x y new old has had said a b f g =
    said
    ∙ ap (λ (w : Declaring). with_maybe (declares t w x new has) o) a
    ∙ ap (λ (w : JavaType). with_maybe (declares t e w new has) o) b
    ∙ ap (λ (w : Bool). with_maybe (declares t e y w has) o) f
    ∙ ap (λ (w : Bool). with_maybe (declares t e y old w) o) g
