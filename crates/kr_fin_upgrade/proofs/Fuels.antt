-- The fuel of a document that was read is within its limit.
use Rattle.std.proofs.Common.{◌≡◌, ◌≤◌, ℕ, ℤ, pos, negsuc, Bool, true, false, cond, List, Option, Some, None, Ok, Err, arith, codes, nat_le, refl, subst}
use Rattle.std.specs.Prelude.{option_and_then, if◌then◌else◌}
use Rattle.std.proofs.lemmas.Bool.{and_parts, leb-true}
use Rattle.toml.specs.Data.{Members, as_integer, get_member}
use Rattle.kr_fin.specs.declared.document.FinDoc.{FinDoc}
use Rattle.kr_fin.specs.declared.refusal.FinRule.TheVariants.{TooLong}
use Rattle.kr_fin.specs.Document.{document_of, magnitude, within}
use Rattle.kr_fin.specs.Faults.{faults_in}
use Rattle.kr_fin.specs.Meaning.{document_in, is_short, meaning, of_table, table_in, unless}
use Rattle.kr_fin.specs.Order.{Fault, least}
use Rattle.kr_fin.specs.Shapes.{fuels, have}

had_few : (z : ℤ) → have fuels z ≡ true → magnitude z ≤ 1000000000
had_few (negsuc n) h = omega arith
had_few (pos n) h = leb-true n 1000000000 (and_parts (nat_le 1 n) (nat_le n 1000000000) h).1

within_few : (o : Option ℤ) → within fuels o ≤ 1000000000
within_few None = omega arith
within_few (Some z) = go (have fuels z) refl
  where
    go : (b : Bool) → have fuels z ≡ b → (if b then magnitude z else 0) ≤ 1000000000
    go true is = had_few z is
    go false is = omega arith

table_few : (ms : Members) → (document_of ms).fuel ≤ 1000000000
unfolding document_of
table_few ms = within_few (option_and_then as_integer (get_member (codes "fuel") ms))

judged_few : (ms : Members) (document : FinDoc) → document_in ms ≡ Ok document → document.fuel ≤ 1000000000
unfolding document_in
judged_few ms document e = go (least (faults_in ms)) e
  where
    go : (o : Option Fault) → unless o (document_of ms) ≡ Ok document → document.fuel ≤ 1000000000
    go None e = let same : document_of ms ≡ document = cc (e) in subst (λ (d : FinDoc). d.fuel ≤ 1000000000) same (table_few ms)
    go (Some f) e = absurd (cc (e))

pub fuel_few : (bytes : List ℕ) (document : FinDoc) → meaning bytes ≡ Ok document → document.fuel ≤ 1000000000
unfolding meaning
fuel_few bytes document e = short (is_short bytes) e
  where
    tabled : (o : Option Members) → of_table o ≡ Ok document → document.fuel ≤ 1000000000
    tabled None e = absurd (cc (e))
    tabled (Some ms) e = judged_few ms document e

    short : (b : Bool) → cond b (of_table (table_in bytes)) (Err (record { rule = TooLong; item = codes "size" })) ≡ Ok document → document.fuel ≤ 1000000000
    short true e = tabled (table_in bytes) e
    short false e = absurd (cc (e))
