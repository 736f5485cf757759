-- How many instance fields there are.
use Rattle.std.proofs.Common.{◌≡◌, refl, sym, ap, ◌∙◌, ℕ, zero, suc, ◌+◌, ◌-◌, ◌<◌, ◌≤◌, min, Bool, true, false, ◌&&◌, not, List, [], ◌∷◌, ◌++◌, length, take, drop, get_or, append-nil, length-append, nat_lt, if◌then◌else◌, arith, rules}
use Rattle.std.specs.Prelude.{Option, Some, flat_map, reverse}
use Rattle.std.proofs.lemmas.Grind.{flat_map-append, reverse_onto}
use Rattle.kr_base.specs.declared.place.Place.{Place}
use Rattle.kr_classes_table.specs.Table.{Field, Table, ancestors, fields_of, is_instance, line_of, line_within, own_fields, super_of}
use Rattle.kr_classes_table.specs.Rules.{break_if, least, past, sooner}
use Rattle.kr_classes.specs.Faults.{fault_at}
use Rattle.kr_classes.proofs.Sooner.{least_append}
use Rattle.kr_base.proofs.Added.{flat_step}
use Rattle.kr_classes_members.proofs.Classes.{flat_flat}
use Rattle.kr_classes_members.proofs.Upwards.{upwards}

by_static : (b : Bool) (f : Field) → length (if b then [] else f ∷ []) ≡ (if b then 0 else 1)
by_static true f = refl
by_static false f = refl

-- one more item in a list of optional ones
pub one_length : (f : Field) → length (is_instance f) ≡ (if f.is_static then 0 else 1)
one_length f = by_static f.is_static f

turned_length : {A B : Type 0} (h : A → List B) (xs : List A) → length (flat_map h (reverse xs)) ≡ length (flat_map h xs)
turned_length h [] = refl
turned_length h (x ∷ xs) =
    let one : length (h x ++ []) ≡ length (h x) = ap length (append-nil (h x)) in
    let two = length-append (flat_map h (reverse xs)) (h x ++ []) in
    let three = length-append (h x) (flat_map h xs) in
    let four = turned_length h xs in
    let five : length (flat_map h (reverse xs) ++ (h x ++ [])) ≡ length (h x ++ flat_map h xs) = omega (arith, one, two, three, four) in
    ap (λ ys. length (flat_map h ys)) (reverse_onto xs x []) ∙ ap length (flat_map-append h (reverse xs) (x ∷ [])) ∙ five

-- the number of inherited fields of an object
pub inherited_length : (t : Table) (c : ℕ) (own : List Field) → own_fields t c ≡ own → length (fields_of t c) - length (flat_map is_instance own) ≡ length (flat_map is_instance (flat_map (own_fields t) (ancestors t c)))
inherited_length t c own e =
    let h = λ (k : ℕ). flat_map is_instance (own_fields t k) in
    let above = ancestors t c in
    let all : length (fields_of t c) ≡ length (flat_map h (line_of t c)) = ap length (sym (flat_flat is_instance (own_fields t) (reverse (line_of t c)))) ∙ turned_length h (line_of t c) in
    let split : length (flat_map h (line_of t c)) ≡ length (h c) + length (flat_map h above) = length-append (h c) (flat_map h above) in
    let mine : length (h c) ≡ length (flat_map is_instance own) = ap (λ fs. length (flat_map is_instance fs)) e in
    let flat : length (flat_map h above) ≡ length (flat_map is_instance (flat_map (own_fields t) above)) = ap length (flat_flat is_instance (own_fields t) above) in
    omega (arith, all, split, mine, flat)

-- ---- fields past the room

not_less : (n : ℕ) → nat_lt n 0 ≡ false
not_less n = grind (arith, rules)

less_next : (n : ℕ) → nat_lt 0 (suc n) ≡ true
less_next n = grind (arith, rules)

both_next : (a b : ℕ) → nat_lt (suc a) (suc b) ≡ nat_lt a b
both_next a b = grind (arith, rules)

drop_none : {A : Type 0} (n : ℕ) → drop {A = A} n [] ≡ []
drop_none zero = refl
drop_none (suc n) = refl

drop_past : {A : Type 0} (n : ℕ) (xs : List A) (x : A) → drop n (xs ++ x ∷ []) ≡ drop n xs ++ (if nat_lt (length xs) n then [] else x ∷ [])
drop_past zero xs x = ap (λ b. xs ++ (if b then [] else x ∷ [])) (sym (not_less (length xs)))
drop_past (suc n) [] x = drop_none n ∙ ap (λ b. if b then [] else x ∷ []) (sym (less_next n))
drop_past (suc n) (y ∷ ys) x = drop_past n ys x ∙ ap (λ b. drop n ys ++ (if b then [] else x ∷ [])) (sym (both_next (length ys) n))

of_one : (b : Bool) (f : Field) → flat_map (λ (g : Field). break_if true 8 g.place) (if b then [] else f ∷ []) ≡ break_if (not b) 8 f.place
of_one true f = refl
of_one false f = refl

by_kind : (b : Bool) (n : ℕ) (xs : List Field) (f : Field) → past n (xs ++ (if b then [] else f ∷ [])) ≡ past n xs ++ break_if (not b && not (nat_lt (length xs) n)) 8 f.place
by_kind true n xs f = ap (past n) (append-nil xs) ∙ sym (append-nil (past n xs))
by_kind false n xs f =
    ap (flat_map (λ (g : Field). break_if true 8 g.place)) (drop_past n xs f)
    ∙ flat_map-append (λ (g : Field). break_if true 8 g.place) (drop n xs) (if nat_lt (length xs) n then [] else f ∷ [])
    ∙ ap (λ fs. past n xs ++ fs) (of_one (nat_lt (length xs) n) f)

pub past_more : (n : ℕ) (xs : List Field) (f : Field) → past n (xs ++ is_instance f) ≡ past n xs ++ break_if (not f.is_static && not (nat_lt (length xs) n)) 8 f.place
past_more n xs f = by_kind f.is_static n xs f

-- ---- counted up to a cap

pub capped : (m total count rest all : ℕ) → m ≡ min 32 (total + count) → min 32 (total + (count + rest)) ≡ all → min 32 (m + rest) ≡ all
capped m total count rest all f e = omega (arith, f, e)

pub closing : (total rest all : ℕ) → total ≤ 32 → rest ≡ 0 → min 32 (total + rest) ≡ all → total ≡ all
closing total rest all l r e = omega (arith, l, r, e)

pub count_onward : (t : Table) (n i c : ℕ) (at next : Option ℕ) → i < n → at ≡ Some c → next ≡ super_of t c
    → length (flat_map is_instance (flat_map (own_fields t) (line_within (n - i) t at))) ≡ length (flat_map is_instance (own_fields t c)) + length (flat_map is_instance (flat_map (own_fields t) (line_within (n - (i + 1)) t next)))
count_onward t n i c at next l a s =
    let rest = flat_map (own_fields t) (line_within (n - (i + 1)) t next) in
    ap (λ cs. length (flat_map is_instance (flat_map (own_fields t) cs))) (upwards t n i c at next l a s)
    ∙ ap length (flat_map-append is_instance (own_fields t c) rest)
    ∙ length-append (flat_map is_instance (own_fields t c)) (flat_map is_instance rest)

pub counted_more : {A B : Type 0} (g : A → List B) (xs : List A) (i : ℕ) (d : A) (seen count : ℕ) → i < length xs → seen ≡ length (flat_map g (take i xs)) → count ≡ length (g (get_or xs i d)) → seen + count ≡ length (flat_map g (take (i + 1) xs))
counted_more g xs i d seen count l s n =
    let more = length-append (flat_map g (take i xs)) (g (get_or xs i d)) in
    let all : length (flat_map g (take i xs) ++ g (get_or xs i d)) ≡ length (flat_map g (take (i + 1) xs)) = ap length (flat_step g [] (flat_map g (take i xs)) (g (get_or xs i d)) xs i d l refl refl) in
    omega (arith, s, n, more, all)

-- the first field past the room, with one more
pub past_each : {A : Type 0} (v : A → Field) (room seen : ℕ) (xs : List A) (i : ℕ) (d : A) (is_past : Bool) (first here new : Option Place) → i < length xs
    → seen ≡ length (flat_map (λ x. is_instance (v x)) (take i xs))
    → fault_at 8 first ≡ least (past room (flat_map (λ x. is_instance (v x)) (take i xs)))
    → ((s : ℕ) → fault_at s new ≡ sooner (fault_at s first) (fault_at s here))
    → fault_at 8 here ≡ least (break_if is_past 8 (v (get_or xs i d)).place)
    → is_past ≡ not (v (get_or xs i d)).is_static && not (nat_lt seen room)
    → fault_at 8 new ≡ least (past room (flat_map (λ x. is_instance (v x)) (take (i + 1) xs)))
past_each v room seen xs i d is_past first here new l n f s h e =
    let done = flat_map (λ x. is_instance (v x)) (take i xs) in
    let x = v (get_or xs i d) in
    let asked : is_past ≡ not x.is_static && not (nat_lt (length done) room) = e ∙ ap (λ k. not x.is_static && not (nat_lt k room)) n in
    s 8
    ∙ ap (λ o. sooner o (fault_at 8 here)) f
    ∙ ap (sooner (least (past room done))) (h ∙ ap (λ b. least (break_if b 8 x.place)) asked)
    ∙ sym (least_append (past room done) (break_if (not x.is_static && not (nat_lt (length done) room)) 8 x.place))
    ∙ ap least (sym (past_more room done x))
    ∙ ap (λ fs. least (past room fs)) (flat_step (λ y. is_instance (v y)) [] done (is_instance x) xs i d l refl refl)

pub room_left : (kept above all : ℕ) → kept ≡ min 32 above → all ≡ above → 32 - kept ≡ 32 - all
room_left kept above all k a = omega (arith, k, a)
