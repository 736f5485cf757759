-- Types in wrappings.
use Rattle.std.proofs.Common.{◌≡◌, ℕ, zero, suc, ◌<◌, ◌==◌, Bool, false, List, [], ◌∷◌, ◌++◌, Option, refl, ap, ◌∙◌, arith}
use Rattle.kr_classes_table.specs.Types.{JavaType}
use Rattle.kr_classes_table.specs.Table.{Heading}
use Rattle.kr_space_meaning.specs.Names.{type_of}
use Rattle.kr_classes_names.specs.Types.{TypeList, Extends}
use Rattle.kr_space_names.specs.declared.wrapping.Wrapping.{Wrapping}
use Rattle.kr_space_names.specs.declared.wrapping.Wrapping.TheVariants as wrappings
use Rattle.kr_space_names.specs.Texts.{peeled, wrap, wrapped}

pub wrapped_one : (ws : List Wrapping) (w : Wrapping) (t : Option JavaType) → wrapped (ws ++ w ∷ []) t ≡ wrapped ws (wrap w t)
wrapped_one [] w t = refl
wrapped_one (x ∷ ws) w t = ap (wrap x) (wrapped_one ws w t)

pub one_layer : (hs : List Heading) (f : List ℕ → Option JavaType) (w : Wrapping) (text : List ℕ) → type_of hs f (peeled w text) ≡ wrap w (f text)
one_layer hs f wrappings.Array text = refl
one_layer hs f wrappings.Set text = refl
one_layer hs f wrappings.List text = refl

pub extends_more : (a b c : TypeList) → Extends a b → Extends b c → Extends a c
extends_more a b c e f = record {
  more = omega (arith, e.more, f.more);
  same = λ n h. f.same n (omega (arith, h, e.more)) ∙ e.same n h;
}

pub nonempty : (n : ℕ) (b : Bool) → b ≡ (n == 0) → b ≡ false → 0 < n
nonempty zero b e f = absurd (cc (e, f))
nonempty (suc n) b e f = omega arith
