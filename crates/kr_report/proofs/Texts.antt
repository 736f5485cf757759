-- Texts that are put in pieces.
use Rattle.std.proofs.Common.{◌≡◌, ℕ, List, [], ◌++◌, sym, ap, ◌∙◌, append_assoc, append-nil}
use Rattle.std.specs.Prelude.{codes, None}
use Rattle.kr_base.specs.Cuts.{cut_text}
use Rattle.kr_mean.specs.Problem.{Problem}
use Rattle.kr_mean.specs.Runs.{tested_method, key_of}
use Rattle.kr_mean.specs.Verdicts.{verdict_by, verdict_of}
use Rattle.kr_mean.specs.Entries.{row_of, structure_of}
use Rattle.kr_mean.specs.declared.mode.Mode.TheVariants.{List as Listing}
use Rattle.kr_report.specs.Texts.{structure_text, verdict_text, row_text}

-- five texts, one after another
grouped : (a b c d e : List ℕ) → a ++ (b ++ (c ++ (d ++ (e ++ [])))) ≡ a ++ b ++ c ++ d ++ e
grouped a b c d e = simp (append_assoc, append-nil)

pub five_pieces : (a b c d e x y : List ℕ) → x ≡ b → y ≡ d → a ++ (x ++ (c ++ (y ++ (e ++ [])))) ≡ a ++ b ++ c ++ d ++ e
five_pieces a b c d e x y p q = ap (λ t. a ++ (t ++ (c ++ (y ++ (e ++ []))))) p ∙ (ap (λ t. a ++ (b ++ (c ++ (t ++ (e ++ []))))) q ∙ grouped a b c d e)

three : (a b c : List ℕ) → a ++ (b ++ (c ++ [])) ≡ a ++ b ++ c
three a b c = simp (append_assoc, append-nil)

pub three_pieces : (a b c x : List ℕ) → x ≡ b → a ++ (x ++ (c ++ [])) ≡ a ++ b ++ c
three_pieces a b c x p = ap (λ t. a ++ (t ++ (c ++ []))) p ∙ three a b c

pub two_pieces : (a b x : List ℕ) → x ≡ a → x ++ (b ++ []) ≡ a ++ b
two_pieces a b x p = ap (λ t. x ++ t) (append-nil b) ∙ ap (λ t. t ++ b) p

-- a listing has no verdicts
pub no_verdict : (problem : Problem) (v : List ℕ) → problem.mode ≡ Listing → verdict_of problem v ≡ None
unfolding verdict_of
no_verdict problem v e = ap (λ m. verdict_by problem v problem.fuel (tested_method problem m)) e

-- so its rows are a key and a structure
pub row_is : (problem : Problem) (v : List ℕ) → problem.mode ≡ Listing
    → ((cut_text (key_of problem v) ++ codes " ") ++ structure_text problem (structure_of problem v)) ++ codes "\n" ≡ row_text problem (row_of problem v)
row_is problem v e =
    let key = cut_text (key_of problem v) ++ codes " " in
    let structure = structure_text problem (structure_of problem v) in
    let none : verdict_text problem.program.table.headings (verdict_of problem v) ≡ [] = ap (verdict_text problem.program.table.headings) (no_verdict problem v e) in
    let same : key ++ verdict_text problem.program.table.headings (verdict_of problem v) ≡ key = ap (λ t. key ++ t) none ∙ append-nil key in
    ap (λ t. (t ++ structure) ++ codes "\n") (sym same)
