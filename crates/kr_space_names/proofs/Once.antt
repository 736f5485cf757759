-- Types collected one after another are each there once.
use Rattle.std.proofs.Common.{◌≡◌, refl, sym, ap, ◌∙◌, Bool, true, false, cond, List, [], ◌∷◌, ◌++◌, append_assoc, append-nil}
use Rattle.std.specs.Prelude.{◌||◌}
use Rattle.std.proofs.lemmas.List.Sums.{fold-append}
use Rattle.kr_classes_table.specs.Types.{JavaType, is_same}
use Rattle.kr_classes_table.specs.Arrays.{is_listed, once}
use Rattle.kr_space_names.specs.Collected.{collect, collected}

swapped : (a b c : Bool) → (a || (b || c)) ≡ (b || (a || c))
swapped true true c = refl
swapped true false c = refl
swapped false true c = refl
swapped false false c = refl

listed_end : (t x : JavaType) (done : List JavaType) → is_listed t (done ++ x ∷ []) ≡ (is_same t x || is_listed t done)
listed_end t x [] = refl
listed_end t x (y ∷ ys) = ap (λ (b : Bool). is_same t y || b) (listed_end t x ys) ∙ swapped (is_same t y) (is_same t x) (is_listed t ys)

once_from : (seen done ts : List JavaType) → ((t : JavaType) → is_listed t seen ≡ is_listed t done) → collected done ts ≡ done ++ once seen ts
once_from seen done [] h = sym (append-nil done)
once_from seen done (x ∷ ts) h = go (is_listed x seen) (is_listed x done) (h x) (once_from seen done ts h) (once_from (x ∷ seen) (done ++ x ∷ []) ts more)
  where
    more : (t : JavaType) → is_listed t (x ∷ seen) ≡ is_listed t (done ++ x ∷ [])
    more t = ap (λ (b : Bool). is_same t x || b) (h t) ∙ sym (listed_end t x done)

    go : (a b : Bool) → a ≡ b → collected done ts ≡ done ++ once seen ts → collected (done ++ x ∷ []) ts ≡ (done ++ x ∷ []) ++ once (x ∷ seen) ts
        → collected (cond b done (done ++ x ∷ [])) ts ≡ done ++ cond a (once seen ts) (x ∷ once (x ∷ seen) ts)
    go true true e p q = p
    go false false e p q = q ∙ append_assoc done (x ∷ []) (once (x ∷ seen) ts)
    go true false e p q = absurd (cc (e))
    go false true e p q = absurd (cc (e))

pub once_collected : (ts : List JavaType) → once [] ts ≡ collected [] ts
once_collected ts = sym (once_from [] [] ts (λ t. refl))

once_again : (seen ts : List JavaType) → once seen (once seen ts) ≡ once seen ts
once_again seen [] = refl
once_again seen (x ∷ ts) = go (is_listed x seen) refl (once_again seen ts) (once_again (x ∷ seen) ts)
  where
    go : (b : Bool) → is_listed x seen ≡ b → once seen (once seen ts) ≡ once seen ts → once (x ∷ seen) (once (x ∷ seen) ts) ≡ once (x ∷ seen) ts
        → once seen (cond b (once seen ts) (x ∷ once (x ∷ seen) ts)) ≡ cond b (once seen ts) (x ∷ once (x ∷ seen) ts)
    go true e p q = p
    go false e p q = ap (λ (b : Bool). cond b (once seen (once (x ∷ seen) ts)) (x ∷ once (x ∷ seen) (once (x ∷ seen) ts))) e ∙ ap (λ (us : List JavaType). x ∷ us) q

-- more types after those that are there once already
pub once_more : (ts us : List JavaType) → once [] (once [] ts ++ us) ≡ collected (once [] ts) us
once_more ts us =
    once_collected (once [] ts ++ us) ∙ (fold-append collect [] (once [] ts) us
    ∙ ap (λ (done : List JavaType). collected done us) (sym (once_collected (once [] ts)) ∙ once_again [] ts))
