-- From what the reader of TOML ensures to the meaning of the bytes.
use Rattle.std.proofs.Common.{◌≡◌, ◌∙◌, ◌<◌, ◌≤◌, ℕ, Bool, true, false, List, length, codes, Some, None, Err, refl, sym, ap, inl, inr}
use Rattle.std.specs.Str.{IsUtf8, is_utf8}
use Rattle.std.proofs.lemmas.Str.{IsUtf8-from_is_utf8, is_utf8-from_IsUtf8}
use Rattle.std.proofs.lemmas.Bool.{cases_Bool, lt-leb, le-leb, leb-false, leb-true, false≢true}
use Rattle.std.proofs.Math.Dec.{leb}
use Rattle.toml.specs.Data.{Members}
use Rattle.toml.specs.Parse.{parse_document}
use Rattle.kr_fin.specs.declared.refusal.FinRule.TheVariants.{TooLong, NotToml}
use Rattle.kr_fin.specs.Meaning.{document_in, meaning, of_table, table_in}

-- a number that isn't found to be above a limit isn't
pub within_limit : (n limit : ℕ) (told : Bool) → told ≡ false → (limit < n → told ≡ true) → n ≤ limit
within_limit n limit told e above = elim (cases_Bool (leb n limit)) [
  | inl short ↦ leb-true n limit short
  | inr long ↦ absurd (false≢true (sym e ∙ above (leb-false n limit long)))
]

pub table_at_ok : (bytes : List ℕ) (ms : Members) → IsUtf8 bytes → parse_document bytes ≡ Some ms → table_in bytes ≡ Some ms
table_at_ok bytes ms utf8 parsed = rw (is_utf8-from_IsUtf8 bytes utf8, parsed) refl

no_table : (bytes : List ℕ) → (IsUtf8 bytes → parse_document bytes ≡ None) → table_in bytes ≡ None
no_table bytes refused = elim (cases_Bool (is_utf8 bytes)) [
  | inl e ↦ rw (e, refused (IsUtf8-from_is_utf8 bytes e)) refl
  | inr e ↦ rw e refl
]

pub of_too_long : (bytes : List ℕ) → 1048576 < length bytes → meaning bytes ≡ Err (record { rule = TooLong; item = codes "size" })
unfolding meaning
of_too_long bytes long = rw (lt-leb (length bytes) 1048576 long) refl

pub of_toml : (bytes : List ℕ) (ms : Members) → length bytes ≤ 1048576 → IsUtf8 bytes → parse_document bytes ≡ Some ms → meaning bytes ≡ document_in ms
unfolding meaning
of_toml bytes ms short utf8 parsed = rw (le-leb (length bytes) 1048576 short) (ap of_table (table_at_ok bytes ms utf8 parsed))

pub of_no_toml : (bytes : List ℕ) → length bytes ≤ 1048576 → (IsUtf8 bytes → parse_document bytes ≡ None) → meaning bytes ≡ Err (record { rule = NotToml; item = codes "toml" })
unfolding meaning
of_no_toml bytes short refused = rw (le-leb (length bytes) 1048576 short) (ap of_table (no_table bytes refused))
