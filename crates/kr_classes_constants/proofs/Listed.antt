-- The constants of all classes, one after another, and their values.
use Rattle.std.proofs.Common.{◌≡◌, refl, sym, ap, ◌∙◌, ℕ, zero, suc, ◌+◌, ◌<◌, List, [], ◌∷◌, ◌++◌, length, map, take, get_or, append-nil, arith}
use Rattle.std.specs.Prelude.{Some, None, flat_map, fold, option_to_list}
use Rattle.std.proofs.lemmas.List.{map-append, take_more}
use Rattle.std.proofs.lemmas.List.Sums.{fold_push}
use Rattle.kr_ast.specs.Tree.{Tree, Nil}
use Rattle.kr_classes_table.specs.Table.{Table, Class, Field, class_at, headings_of, own_fields, table_of}
use Rattle.kr_classes_table.specs.Constants.{constants_in}
use Rattle.kr_base.proofs.Added.{flat_step}
use Rattle.kr_classes_constants.specs.Outcomes.{constant_listed}

pub table_headings : (files : List Tree) → (table_of files).headings ≡ headings_of files
unfolding table_of
table_headings files = refl

no_class : Class
no_class = record { name = []; place = record { file = 0; line = 0; col = 0 }; outer = None; extended = Nil; super = None; fields = []; methods = []; constructors = [] }

class_there : (ds : List Class) (k : ℕ) → k < length ds → class_at ds k ≡ Some (get_or ds k no_class)
class_there [] k l = absurd (omega arith)
class_there (d ∷ ds) zero l = refl
class_there (d ∷ ds) (suc k) l = class_there ds k (omega arith)

own_at : (t : Table) (k : ℕ) → k < length t.classes → own_fields t k ≡ (get_or t.classes k no_class).fields
own_at t k l = ap (λ o. flat_map (λ d. d.fields) (option_to_list o)) (class_there t.classes k l) ∙ append-nil (get_or t.classes k no_class).fields

-- one class more
pub constants_step : (t : Table) (all more : List Field) (k : ℕ) → k < length t.classes → all ≡ flat_map constants_in (take k t.classes) → more ≡ flat_map constant_listed (own_fields t k) → all ++ more ≡ flat_map constants_in (take (k + 1) t.classes)
constants_step t all more k l a m = flat_step constants_in [] all more t.classes k no_class l a (m ∙ ap (flat_map constant_listed) (own_at t k l))

-- one more item in a fold
pub fold_step : {A B C : Type 0} (f : C → B → C) (g : A → B) (a : C) (xs : List A) (i : ℕ) (d : A) → i < length xs → f (fold f a (map g (take i xs))) (g (get_or xs i d)) ≡ fold f a (map g (take (i + 1) xs))
fold_step f g a xs i d l =
    let x = get_or xs i d in
    sym (ap (λ ys. fold f a (map g ys)) (take_more xs i d l) ∙ ap (fold f a) (map-append g (take i xs) (x ∷ [])) ∙ fold_push f a (map g (take i xs)) (g x))
