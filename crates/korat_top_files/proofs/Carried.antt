-- What `upgrade` gives, by its steps.
use Rattle.std.proofs.Common.{◌≡◌, ◌∙◌, ℕ, List, [], true≢false, ap, inl, inr, refl, sym, subst, string_bytes, String, Global}
use Rattle.std.specs.Prelude.{Option, Some, Result, Ok, Err}
use Rattle.kr_fin.specs.declared.document.FinDoc.{FinDoc}
use Rattle.kr_fin_upgrade.specs.Upgraded.{up}
use Rattle.kr_fin_upgrade.proofs.OneText.{one_text}
use Rattle.korat_top_files.specs.declared.refusal.InputFile.{InputFile}
use Rattle.korat_top_files.specs.declared.refusal.InputFile.TheVariants as input
use Rattle.korat_top_files.specs.declared.refusal.Stop.{Stop}
use Rattle.korat_top_files.specs.declared.refusal.Stop.TheVariants.{Read, Refused, Memory}
use Rattle.korat_top_files.specs.Refusals.{files_of, name_of, refusal_of}
use Rattle.korat_top_files.specs.Steps.{Reads}
use Rattle.kr_io.specs.Held.{Held}
use Rattle.korat_top_files.specs.Chains.{reading, stating}
use Rattle.korat_top_files.specs.Found.{CountStays, HasRead, Meets, telling}
use Rattle.korat_top_files.specs.OneOutcome.{HasOne}
use Rattle.korat_top_files.specs.Upgrades.{Carries, FindsUpgrade, carrying, carrying_bytes}
use Rattle.korat_top_files.proofs.Outcomes.{one_then}
use Rattle.korat_top_files.proofs.Told.{read_long, read_whole}

-- ---- one outcome

one_carrying : (document : FinDoc) → HasOne (carrying document)
one_carrying document (Ok a) (Ok b) x y = ap Ok (one_text (up document) a b x.printed y.printed)
one_carrying document (Ok a) (Err t) x y = absurd (true≢false (sym y.0 ∙ x.first))
one_carrying document (Err r) (Ok b) x y = absurd (true≢false (sym x.0 ∙ y.first))
one_carrying document (Err r) (Err t) x y = ap Err (x.1 ∙ sym y.1)

pub one_carried : ((held : Held) (file : InputFile) (name : List ℕ) → HasOne (reading held file name)) → ((fin : List ℕ) → HasOne (stating fin)) → (held : Held) (fin : List ℕ) → HasOne (Carries held fin)
one_carried reads states held fin =
    one_then (reading held input.Finitization fin) carrying_bytes (reads held input.Finitization fin) (λ bytes. one_then (stating bytes) carrying (states bytes) one_carrying)

-- ---- what the work gives

module _ {F : Type 0} (held : F → Held) (faults : F → ℕ) (last : F → Option (List ℕ)) (fin : List ℕ) (files files' : F) where
  pub unread : (stop : Stop) → HasRead held faults last input.Finitization fin files files' (Err stop) → FindsUpgrade held faults last fin files files' (Err stop)
  unread (Refused r) h = λ told. inl (read_long (held files) input.Finitization fin (refusal_of r) h (told fin (inl refl)))
  unread (Read failed) h = record {
    read = subst (λ (x : InputFile). Reads (held files) (files_of fin []) (name_of (files_of fin []) x)) (sym h.0) (inl refl);
    named = subst (λ (x : InputFile). last files' ≡ Some (name_of (files_of fin []) x)) (sym h.0) h.1;
    cause = h.2;
  }
  unread (Memory why) h = tt

  pub read : (bytes : List ℕ) (r : Result (String Global) Stop) → telling (held files) input.Finitization fin (Ok bytes) → Meets (carrying_bytes bytes) string_bytes r → FindsUpgrade held faults last fin files files' r
  read bytes (Ok text) h j = λ told. (bytes, read_whole (held files) input.Finitization fin bytes h (told fin (inl refl)), j)
  read bytes (Err (Refused r)) h j = λ told. inr (bytes, read_whole (held files) input.Finitization fin bytes h (told fin (inl refl)), j)
  read bytes (Err (Read failed)) h j = absurd j
  read bytes (Err (Memory why)) h j = tt

pub counted : (bytes : List ℕ) (before now : ℕ) (r : Result (String Global) Stop) → Meets (carrying_bytes bytes) string_bytes r → now ≡ before → CountStays before now r
counted bytes before now (Ok text) j e = e
counted bytes before now (Err (Refused r)) j e = e
counted bytes before now (Err (Read failed)) j e = absurd j
counted bytes before now (Err (Memory why)) j e = e
