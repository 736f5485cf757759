-- From the contract of clap's parser to the command of the words.
use Rattle.std.proofs.Common.{◌≡◌, ◌≢◌, ◌⊎◌, ◌∙◌, true, false, List, [], ◌∷◌, refl, ap, sym, subst, inl, inr, arith, Option, None}
use Rattle.clap.specs.Words.{App, IsAmong, Kinds, Row, Text, fault_of, is_simple, is_simple_and_free, subcommand_of}
use Rattle.clap.specs.Walk.{is_empty}
use Rattle.clap.specs.declared.error.ErrorKind.{ErrorKind}
use Rattle.clap.specs.declared.error.ErrorKind.TheVariants.{OutOfMemory}
use Rattle.clap.proofs.OnLiterals.{clap_on_literals}
use Rattle.kr_args.specs.Definition.{korat_app}
use Rattle.kr_args.specs.Reading.{command_of, command_in}

-- clap states the meaning of this definition
pub korat_is_free : is_simple_and_free korat_app ≡ true
unfolding clap_on_literals
korat_is_free = refl

pub korat_is_simple : is_simple korat_app ≡ true
unfolding clap_on_literals
korat_is_simple = refl

-- a successful parse gives the matches of the words
pub command_at_ok : (a : App) (words : List Text) (rows : List Row) (met : Option (Text × List Row)) (own : List Row)
    → a ≡ korat_app → (is_simple_and_free a ≡ true → fault_of a words ≡ [])
    → (is_simple a ≡ true → (rows ≡ own) × (met ≡ subcommand_of a words))
    → command_of words ≡ command_in met
unfolding command_of
command_at_ok a words rows met own is kinds matches =
    let free : fault_of korat_app words ≡ [] = ap (λ b. fault_of b words) (sym is) ∙ kinds (ap is_simple_and_free is ∙ korat_is_free) in
    let met_is : subcommand_of korat_app words ≡ met = ap (λ b. subcommand_of b words) (sym is) ∙ sym ((matches (ap is_simple is ∙ korat_is_simple)).1) in
    rw (free, met_is) refl

some_fault : (k : ErrorKind) (ks : Kinds) → IsAmong k ks → is_empty ks ≡ false
some_fault k [] h = absurd h
some_fault k (x ∷ xs) h = grind arith

-- a failed parse, unless out of memory, is of words without a command
pub no_command_at_err : (a : App) (words : List Text) (k : ErrorKind) → a ≡ korat_app
    → (is_simple_and_free a ≡ true → (k ≡ OutOfMemory) ⊎ IsAmong k (fault_of a words)) → k ≢ OutOfMemory → command_of words ≡ None
unfolding command_of
no_command_at_err a words k is kinds other = elim (kinds (ap is_simple_and_free is ∙ korat_is_free)) [
  | inl memory ↦ absurd (other memory)
  | inr among ↦
      let P : App → Type 0 = λ b. IsAmong k (fault_of b words) in
      let wrong : is_empty (fault_of korat_app words) ≡ false = some_fault k (fault_of korat_app words) (subst P is among) in
      rw wrong refl
]
