-- What was read, as far as bytes are known, is what the files hold where they are known.
use Rattle.std.proofs.Common.{◌≡◌, ℕ, ◌+◌, ◌<◌, ◌≤◌, inl, inr, List, [], ◌∷◌, ◌++◌, length, take, drop, get_or, zero, suc, refl, sym, ap, ◌∙◌, subst, arith}
use Rattle.std.specs.Prelude.{Option, Some, None, IfSome, IsSome, Result, Ok, Err, All, map, slice_index_or}
use Rattle.std.proofs.lemmas.List.{length-take, take_all}
use Rattle.kr_ast.specs.Arena.{Arena, root}
use Rattle.kr_space_problem.specs.Posed.{posed}
use Rattle.korat_top_files.specs.declared.refusal.InputFile.{InputFile}
use Rattle.korat_top_files.specs.declared.refusal.InputFile.TheVariants as input
use Rattle.kr_base.specs.Causes.{Rose}
use Rattle.korat_top_files.specs.declared.refusal.Stop.{Stop}
use Rattle.korat_top_files.specs.declared.refusal.Stop.TheVariants.{Read, Refused, Memory}
use Rattle.kr_mean.specs.Problem.{Problem}
use Rattle.kr_mean.specs.declared.mode.Mode.{Mode}
use Rattle.kr_space_problem.specs.declared.problem.Problem as posing
use Rattle.korat_top_files.specs.Refusals.{Inputs, Refusal, name_of, refusal_of}
use Rattle.korat_top_files.specs.Steps.{LIMIT, ReadsIn, Reads, AllTold}
use Rattle.kr_io.specs.Held.{Held}
use Rattle.korat_top_files.specs.Chains.{each, growing, reading, reading_source, from_texts, checking}
use Rattle.korat_top_files.specs.Found.{telling, telling_source, HasRead, HasReadAll, Meets, FindsIn}
use Rattle.korat_top_files.proofs.Outcomes.{split_at, each_refused}

-- ---- one read, of at most one byte more than is taken

whole_of : (n : ℕ) (all bytes : List ℕ) → bytes ≡ take (n + 1) all → length bytes ≤ n → all ≡ bytes
whole_of n all bytes e h =
    let short : length all ≤ n + 1 = omega (arith, ap length e, length-take (n + 1) all) in
    sym (e ∙ take_all (n + 1) all short)

long_of : (n : ℕ) (all bytes : List ℕ) → bytes ≡ take (n + 1) all → n < length bytes → n < length all
long_of n all bytes e h = omega (arith, ap length e, length-take (n + 1) all)

pub whole_told : (told : Option (List ℕ)) (bytes : List ℕ) → IfSome told (λ all. bytes ≡ take 1048577 all) → length bytes ≤ 1048576 → IfSome told (λ all. all ≡ bytes)
whole_told None bytes e h = tt
whole_told (Some all) bytes e h = whole_of 1048576 all bytes e h

pub long_told : (told : Option (List ℕ)) (bytes : List ℕ) → IfSome told (λ all. bytes ≡ take 1048577 all) → 1048576 < length bytes → IfSome told (λ all. 1048576 < length all)
long_told None bytes e h = tt
long_told (Some all) bytes e h = long_of 1048576 all bytes e h

-- ---- told bytes

short_told : (told : Option (List ℕ)) (bytes : List ℕ) → IfSome told (λ all. all ≡ bytes) → length bytes ≤ LIMIT → IfSome told (λ all. length all ≤ LIMIT)
short_told None bytes e h = tt
short_told (Some all) bytes e h = subst (λ (t : List ℕ). length t ≤ LIMIT) (sym e) h

told_is : (told : Option (List ℕ)) (bytes : List ℕ) → IfSome told (λ all. all ≡ bytes) → IsSome told → told ≡ Some bytes
told_is None bytes e s = absurd (cc (s))
told_is (Some all) bytes e s = ap Some e

told_long : (told : Option (List ℕ)) → IfSome told (λ all. LIMIT < length all) → IsSome told → (bytes : List ℕ) × (told ≡ Some bytes) × (LIMIT < length bytes)
told_long None h s = absurd (cc (s))
told_long (Some all) h s = (all, refl, h)

pub read_whole : (held : Held) (file : InputFile) (name bytes : List ℕ) → telling held file name (Ok bytes) → IsSome (held name) → reading held file name (Ok bytes)
read_whole held file name bytes h s = (told_is (held name) bytes h.1 s, h.0)

pub read_long : (held : Held) (file : InputFile) (name : List ℕ) (r : Refusal) → telling held file name (Err r) → IsSome (held name) → reading held file name (Err r)
read_long held file name r h s = let long = told_long (held name) h.0 s in (long.0, long.1, long.2, h.1)

-- ---- files hold what they held

pub told_before : (before now : Held) (file : InputFile) (name : List ℕ) (r : Result (List ℕ) Refusal) → now name ≡ before name → telling now file name r → telling before file name r
told_before before now file name (Ok bytes) e h = (h.0, subst (λ told. IfSome told (λ all. all ≡ bytes)) e h.1)
told_before before now file name (Err r) e h = (subst (λ told. IfSome told (λ all. LIMIT < length all)) e h.0, h.1)

pub each_before : (before now : Held) (n : ℕ) (names : List (List ℕ)) (r : Result (List (List ℕ)) Refusal) → ((name : List ℕ) → now name ≡ before name) → each (telling_source now) n names r → each (telling_source before) n names r
each_before before now n [] (Ok []) e h = tt
each_before before now n [] (Ok (t ∷ texts)) e h = absurd h
each_before before now n [] (Err r) e h = absurd h
each_before before now n (f ∷ names) (Ok []) e h = absurd h
each_before before now n (f ∷ names) (Ok (t ∷ texts)) e h = (told_before before now (input.Source n) f (Ok t) (e f) h.0, each_before before now (n + 1) names (Ok texts) e h.1)
each_before before now n (f ∷ names) (Err r) e (inl h) = inl (told_before before now (input.Source n) f (Err r) (e f) h)
each_before before now n (f ∷ names) (Err r) e (inr h) = inr (h.0, told_before before now (input.Source n) f (Ok h.0) (e f) h.1, each_before before now (n + 1) names (Err r) e h.2)

reads_before : (before now : Held) (names : List (List ℕ)) (file : List ℕ) → ((name : List ℕ) → now name ≡ before name) → ReadsIn now names file → ReadsIn before names file
reads_before before now [] file e h = absurd h
reads_before before now (f ∷ names) file e (inl h) = inl h
reads_before before now (f ∷ names) file e (inr h) = inr (subst (λ told. IfSome told (λ bytes. length bytes ≤ LIMIT)) (e f) h.0, reads_before before now names file e h.1)

-- ---- sources in order

-- the next file is read, where those before it are not too long
pub reads_behind : (held : Held) (n : ℕ) (front texts : List (List ℕ)) (name : List ℕ) (rest : List (List ℕ)) → each (telling_source held) n front (Ok texts) → ReadsIn held (front ++ name ∷ rest) name
reads_behind held n [] [] name rest h = inl refl
reads_behind held n [] (t ∷ texts) name rest h = absurd h
reads_behind held n (f ∷ front) [] name rest h = absurd h
reads_behind held n (f ∷ front) (t ∷ texts) name rest h = inr (short_told (held f) t h.0.1 h.0.0, reads_behind held (n + 1) front texts name rest h.1)

-- the source of a number is read, where those before it are not too long
pub reads_next : (held : Held) (names : List (List ℕ)) (i : ℕ) (texts : List (List ℕ)) → i < length names → each (telling_source held) 0 (take i names) (Ok texts) → ReadsIn held names (slice_index_or names i [])
reads_next held names i texts h e =
    subst (λ all. ReadsIn held all (get_or names i [])) (split_at names i [] h) (reads_behind held 0 (take i names) texts (get_or names i []) (drop (suc i) names) e)

pub all_short : (held : Held) (n : ℕ) (names texts : List (List ℕ)) → each (telling_source held) n names (Ok texts) → All (λ text. length text ≤ LIMIT) texts
all_short held n [] [] h k d l = absurd (omega (arith, l))
all_short held n [] (t ∷ texts) h k d l = absurd h
all_short held n (f ∷ names) [] h k d l = absurd h
all_short held n (f ∷ names) (t ∷ texts) h zero d l = h.0.0
all_short held n (f ∷ names) (t ∷ texts) h (suc k) d l = all_short held (n + 1) names texts h.1 k d (omega (arith, l))

pub as_many : (held : Held) (n : ℕ) (names texts : List (List ℕ)) → each (telling_source held) n names (Ok texts) → length texts ≡ length names
as_many held n [] [] h = refl
as_many held n [] (t ∷ texts) h = absurd h
as_many held n (f ∷ names) [] h = absurd h
as_many held n (f ∷ names) (t ∷ texts) h = let rest = as_many held (n + 1) names texts h.1 in omega (arith, rest)

-- as many trees as texts
pub grown_many : (n : ℕ) (texts : List (List ℕ)) (trees : List Arena) → each growing n texts (Ok (map root trees)) → length trees ≡ length texts
grown_many n [] [] h = refl
grown_many n [] (t ∷ trees) h = absurd h
grown_many n (f ∷ texts) [] h = absurd h
grown_many n (f ∷ texts) (t ∷ trees) h = let rest = grown_many (n + 1) texts trees h.1 in omega (arith, rest)

each_whole : (held : Held) (n : ℕ) (names texts : List (List ℕ)) → each (telling_source held) n names (Ok texts) → ((file : List ℕ) → ReadsIn held names file → IsSome (held file))
    → each (reading_source held) n names (Ok texts)
each_whole held n [] [] h told = tt
each_whole held n [] (t ∷ texts) h told = absurd h
each_whole held n (f ∷ names) [] h told = absurd h
each_whole held n (f ∷ names) (t ∷ texts) h told = (
  read_whole held (input.Source n) f t h.0 (told f (inl refl)),
  each_whole held (n + 1) names texts h.1 (λ file r. told file (inr (short_told (held f) t h.0.1 h.0.0, r))),
)

each_long : (held : Held) (n : ℕ) (names : List (List ℕ)) (r : Refusal) → each (telling_source held) n names (Err r) → ((file : List ℕ) → ReadsIn held names file → IsSome (held file))
    → each (reading_source held) n names (Err r)
each_long held n [] r h told = absurd h
each_long held n (f ∷ names) r (inl h) told = inl (read_long held (input.Source n) f r h (told f (inl refl)))
each_long held n (f ∷ names) r (inr h) told = inr (
  h.0,
  read_whole held (input.Source n) f h.0 h.1 (told f (inl refl)),
  each_long held (n + 1) names r h.2 (λ file s. told file (inr (short_told (held f) h.0 h.1.1 h.1.0, s))),
)

-- ---- all files of a command

rest_told : (held : Held) (inputs : Inputs) (fin : List ℕ) → telling held input.Finitization inputs.fin (Ok fin) → AllTold held inputs → (file : List ℕ) → ReadsIn held inputs.sources file → IsSome (held file)
rest_told held inputs fin h told file r = told file (inr (short_told (held inputs.fin) fin h.1 h.0, r))

-- a source is too long
pub source_long : (held : Held) (mode : Mode) (inputs : Inputs) (fin : List ℕ) (r : Refusal) → telling held input.Finitization inputs.fin (Ok fin) → each (telling_source held) 0 inputs.sources (Err r) → AllTold held inputs → checking held mode inputs (Err r)
source_long held mode inputs fin r h s told = inr (
  fin,
  read_whole held input.Finitization inputs.fin fin h (told inputs.fin (inl refl)),
  inl (each_long held 0 inputs.sources r s (rest_told held inputs fin h told)),
)

-- what is judged of the files that were read
pub judged : (held : Held) (mode : Mode) (inputs : Inputs) (fin : List ℕ) (texts : List (List ℕ)) (x : Result Problem Refusal) → telling held input.Finitization inputs.fin (Ok fin) → each (telling_source held) 0 inputs.sources (Ok texts)
    → from_texts mode fin texts x → AllTold held inputs → checking held mode inputs x
judged held mode inputs fin texts (Ok problem) h s j told = (
  fin,
  read_whole held input.Finitization inputs.fin fin h (told inputs.fin (inl refl)),
  (texts, each_whole held 0 inputs.sources texts s (rest_told held inputs fin h told), j),
)
judged held mode inputs fin texts (Err r) h s j told = inr (
  fin,
  read_whole held input.Finitization inputs.fin fin h (told inputs.fin (inl refl)),
  inr (texts, each_whole held 0 inputs.sources texts s (rest_told held inputs fin h told), j),
)

-- a source is read after a finitization that is not too long
pub source_reads : (held : Held) (inputs : Inputs) (fin file : List ℕ) → telling held input.Finitization inputs.fin (Ok fin) → ReadsIn held inputs.sources file → Reads held inputs file
source_reads held inputs fin file h r = inr (short_told (held inputs.fin) fin h.1 h.0, r)

-- ---- what the work gives

-- a source that is not read, after others
pub stopped_at : {F : Type 0} (held : F → Held) (faults : F → ℕ) (last : F → Option (List ℕ)) (names : List (List ℕ)) (i : ℕ) (files before after : F) (texts : List (List ℕ)) (stop : Stop)
    → i < length names → each (telling_source (held files)) 0 (take i names) (Ok texts) → ((name : List ℕ) → held before name ≡ held files name) → faults before ≡ faults files
    → HasRead held faults last (input.Source i) (slice_index_or names i []) before after (Err stop) → HasReadAll held faults last names files after (Err stop)
stopped_at held faults last names i files before after texts (Refused r) l e same count h =
    each_refused (telling_source (held files)) names i [] texts (refusal_of r) l e (told_before (held files) (held before) (input.Source i) (slice_index_or names i []) (Err (refusal_of r)) (same (slice_index_or names i [])) h)
stopped_at held faults last names i files before after texts (Read failed) l e same count h =
    record { number = i; file = h.0; read = reads_next (held files) names i texts l e; named = h.1; cause = subst (λ n. Rose n (faults after)) count h.2 }
stopped_at held faults last names i files before after texts (Memory why) l e same count h = tt

-- sources that are not all read, after the finitization
pub sources_stopped : {F : Type 0} (held : F → Held) (faults : F → ℕ) (last : F → Option (List ℕ)) (mode : Mode) (inputs : Inputs) (files before after : F) (fin : List ℕ) (stop : Stop)
    → telling (held files) input.Finitization inputs.fin (Ok fin) → ((name : List ℕ) → held before name ≡ held files name) → faults before ≡ faults files
    → HasReadAll held faults last inputs.sources before after (Err stop) → FindsIn held faults last mode inputs files after (Err stop)
sources_stopped held faults last mode inputs files before after fin (Refused r) f same count h = λ told.
    source_long (held files) mode inputs fin (refusal_of r) f (each_before (held files) (held before) 0 inputs.sources (Err (refusal_of r)) same h) told
sources_stopped held faults last mode inputs files before after fin (Read failed) f same count h = record {
  read = subst (λ (x : InputFile). Reads (held files) inputs (name_of inputs x)) (sym h.file) (source_reads (held files) inputs fin (slice_index_or inputs.sources h.number []) f (reads_before (held files) (held before) inputs.sources (slice_index_or inputs.sources h.number []) same h.read));
  named = subst (λ (x : InputFile). last after ≡ Some (name_of inputs x)) (sym h.file) h.named;
  cause = subst (λ n. Rose n (faults after)) count h.cause;
}
sources_stopped held faults last mode inputs files before after fin (Memory why) f same count h = tt

-- all files were read, and judged
pub judged_found : {F : Type 0} (held : F → Held) (faults : F → ℕ) (last : F → Option (List ℕ)) (mode : Mode) (inputs : Inputs) (files before after : F) (fin : List ℕ) (texts : List (List ℕ)) (r : Result posing.Problem Stop)
    → telling (held files) input.Finitization inputs.fin (Ok fin) → ((name : List ℕ) → held before name ≡ held files name) → each (telling_source (held before)) 0 inputs.sources (Ok texts)
    → Meets (from_texts mode fin texts) posed r → FindsIn held faults last mode inputs files after r
judged_found held faults last mode inputs files before after fin texts (Ok found) f same e j = λ told.
    judged (held files) mode inputs fin texts (Ok (posed found)) f (each_before (held files) (held before) 0 inputs.sources (Ok texts) same e) j told
judged_found held faults last mode inputs files before after fin texts (Err (Refused r)) f same e j = λ told.
    judged (held files) mode inputs fin texts (Err (refusal_of r)) f (each_before (held files) (held before) 0 inputs.sources (Ok texts) same e) j told
judged_found held faults last mode inputs files before after fin texts (Err (Read failed)) f same e j = absurd j
judged_found held faults last mode inputs files before after fin texts (Err (Memory why)) f same e j = tt
