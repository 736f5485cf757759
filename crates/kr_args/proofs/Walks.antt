-- An invariant of a walk over words that breaks no rule, kept by each use of an argument.
use Rattle.std.proofs.Common.{◌≡◌, ◌&&◌, ℕ, zero, suc, Bool, true, false, List, [], ◌∷◌, Option, Some, None, length, refl}
use Rattle.std.specs.Prelude.{drop, encode_utf8, find, fold, if◌then◌else◌, is_some, not, slice_get}
use Rattle.std.specs.Option.{option_map_or}
use Rattle.std.specs.Str.{bytes_eq, chars}
use Rattle.clap.specs.Lexer.{long_of, short_of}
use Rattle.clap.specs.Walk.{Held, Names, Outcome, Row, Rule, Step, Text, Waiting, Walk, after_flag, after_step, arg_by_id, arg_by_index, arg_by_long, arg_by_short, attached_value, bundle, bundle_met, bundle_step, done, flag_met, has_long, has_short, idle, is_pending, long_met, long_or_other, next, option, option_met, option_word, plain, plain_word, positional, reacted, refused, settled, settled_rows, short_met, short_or_plain, subcommand, subcommand_met, subcommand_or_other, takes_several, takes_values, to_positional, trailing, used, used_by_id, value, waits, walk, walk_from, walked, walked_from, word_met}
use Rattle.clap.specs.Simple.{Shape}
use Rattle.clap.specs.Kinds.{Kinds, or_else}
use Rattle.clap.specs.Faults.{bundle_step_fault, flag_word_fault, flags_fault, level_fault, long_fault, option_fault, other_fault, positional_fault, react_fault, settle_fault, short_fault, stray_fault, step_fault, turn_fault, use_fault, walk_fault, word_fault}
use Rattle.clap.specs.declared.error.kind.ErrorKind.TheVariants as kind

pub both_none : (xs ys : Kinds) → or_else xs ys ≡ [] → (xs ≡ []) × (ys ≡ [])
both_none [] ys e = (refl, e)
both_none (k ∷ ks) ys e = absurd (cc (e))

-- a search among these finds the argument
abbrev pub IsOf : List Rule → Rule → Type 0
IsOf c a = (q : Rule → Bool) × (find q c ≡ Some a)

-- a use of an argument that breaks no rule keeps the invariant of the rows
abbrev pub Keeps : List Rule → Bool → (List Row → Type 0) → Type 0
Keeps c again P = (a : Rule) (values : List Text) (rows : List Row) → IsOf c a → use_fault again a values rows ≡ [] → P rows → P (used a values rows)

module _ (c : List Rule) (again : Bool) (P : List Row → Type 0) (keeps : Keeps c again P) where
  pending_kept : (pending : Option (Text × List Text)) (rows : List Row)
      → option_map_or (λ p. option_map_or (λ a. use_fault again a p.1 rows) (arg_by_id c p.0) []) pending [] ≡ [] → P rows → P (settled_rows c pending rows)
  pending_kept None rows none h = h
  pending_kept (Some p) rows none h = by_id (arg_by_id c p.0) refl none
    where
      by_id : (o : Option Rule) → arg_by_id c p.0 ≡ o → option_map_or (λ a. use_fault again a p.1 rows) o [] ≡ [] → P (used_by_id o p.1 rows)
      by_id None is e = h
      by_id (Some a) is e = keeps a p.1 rows (λ r. bytes_eq r.id p.0, is) e h

  pub settled_kept : (h : Held) → settle_fault c again h ≡ [] → P h.rows → P (settled c h).rows
  settled_kept h none p = pending_kept h.pending h.rows none p

  reacted_kept : (a : Rule) (values : List Text) (h : Held) → IsOf c a → react_fault c again a values h ≡ [] → P h.rows → P (reacted c a values h).rows
  reacted_kept a values h of none p =
      let each = both_none (settle_fault c again h) (use_fault again a values (settled c h).rows) none in
      keeps a values (settled c h).rows of each.1 (settled_kept h each.0 p)

  option_kept : (a : Rule) (v : Option Text) (h : Held) → IsOf c a → option_fault c again a v h ≡ [] → P h.rows → P (option_met c a v h).0.rows
  option_kept a (Some v) h of none p = reacted_kept a (v ∷ []) h of none p
  option_kept a None h of none p = settled_kept h none p

  long_kept : (q : Rule → Bool) (o : Option Rule) (v : Option Text) (h : Held) → find q c ≡ o → long_fault c again o v h ≡ [] → P h.rows → P (long_met c o v h).0.rows
  long_kept q None v h is none p = p
  long_kept q (Some a) v h is none p = by_values (takes_values a) none
    where
      flag_kept : (v : Option Text) → (if is_some v then kind.TooManyValues ∷ [] else react_fault c again a [] h) ≡ [] → P (flag_met c a v h).0.rows
      flag_kept (Some v) e = p
      flag_kept None e = reacted_kept a [] h (q, is) e p

      by_values : (b : Bool) → (if b then option_fault c again a v h else (if is_some v then kind.TooManyValues ∷ [] else react_fault c again a [] h)) ≡ []
          → P (if b then option_met c a v h else flag_met c a v h).0.rows
      by_values true e = option_kept a v h (q, is) e p
      by_values false e = flag_kept v e

  short_kept : (q : Rule → Bool) (o : Option Rule) (rest : Text) (h : Held) (onward : Held → Held × Outcome) (fault : Held → Kinds) → find q c ≡ o
      → ((g : Held) → fault g ≡ [] → P g.rows → P (onward g).0.rows) → short_fault c again o rest h fault ≡ [] → P h.rows → P (short_met c o rest h onward).0.rows
  short_kept q None rest h onward fault is more none p = p
  short_kept q (Some a) rest h onward fault is more none p = by_values (takes_values a) none
    where
      by_values : (b : Bool) → (if b then option_fault c again a (attached_value rest) h else or_else (react_fault c again a [] h) (fault (reacted c a [] h))) ≡ []
          → P (if b then option_met c a (attached_value rest) h else onward (reacted c a [] h)).0.rows
      by_values true e = option_kept a (attached_value rest) h (q, is) e p
      by_values false e =
          let each = both_none (react_fault c again a [] h) (fault (reacted c a [] h)) e in
          more (reacted c a [] h) each.1 (reacted_kept a [] h (q, is) each.0 p)

  step_kept : (o : Option ℕ) (flags : Text) (skip : ℕ) (so_far : Outcome) (h : Held) (onward : Text → ℕ → Outcome → Held → Held × Outcome) (fault : Text → ℕ → Held → Kinds)
      → ((rest : Text) (k : ℕ) (before : Outcome) (g : Held) → fault rest k g ≡ [] → P g.rows → P (onward rest k before g).0.rows)
      → bundle_step_fault c again o flags skip h fault ≡ [] → P h.rows → P (bundle_step c o flags skip so_far h onward).0.rows
  step_kept None flags skip so_far h onward fault more none p = p
  step_kept (Some x) flags zero so_far h onward fault more none p =
      let rest = drop (length (encode_utf8 x)) flags in
      short_kept (λ a. not (is_some a.index) && has_short a x) (arg_by_short c x) rest h (onward rest 0 done) (fault rest 0) refl (more rest 0 done) none p
  step_kept (Some x) flags (suc skip) so_far h onward fault more none p = more (drop (length (encode_utf8 x)) flags) skip so_far h none p

  bundle_kept : (k : ℕ) (flags : Text) (skip : ℕ) (so_far : Outcome) (h : Held) → flags_fault c again k flags skip h ≡ [] → P h.rows → P (bundle_met c k flags skip so_far h).0.rows
  unfolding bundle_met flags_fault
  bundle_kept zero flags skip so_far h none p = p
  bundle_kept (suc k) flags skip so_far h none p = step_kept (slice_get (chars flags) 0) flags skip so_far h (bundle_met c k) (flags_fault c again k) (bundle_kept k) none p

  plain_kept : (waiting : Waiting) (word : Text) (h : Held) → P h.rows → P (plain_word c waiting word h).0.rows
  plain_kept (option id) word h p = by_id (arg_by_id c id)
    where
      by_id : (o : Option Rule) → P (option_word o id word h).0.rows
      by_id None = p
      by_id (Some a) = p
  plain_kept idle word h p = p
  plain_kept positional word h p = p

  after_kept : (waiting : Waiting) (word : Text) (h : Held) (o : Outcome) → P h.rows → P (after_flag c waiting word h o).0.rows
  after_kept waiting word h done p = p
  after_kept waiting word h (waits id) p = p
  after_kept waiting word h plain p = plain_kept waiting word h p
  after_kept waiting word h refused p = plain_kept waiting word h p

  flags_kept : (o : Option Text) (waiting : Waiting) (word : Text) (h : Held)
      → option_map_or (λ flags. flags_fault c again (length flags) flags h.skip (record h { skip = 0 })) o [] ≡ [] → P h.rows → P (short_or_plain c waiting word o h).0.rows
  flags_kept None waiting word h none p = plain_kept waiting word h p
  flags_kept (Some flags) waiting word h none p =
      after_kept waiting word (bundle c flags h).0 (bundle c flags h).1 (bundle_kept (length flags) flags h.skip plain (record h { skip = 0 }) none p)

  flag_word_kept : (o : Option (Text × Option Text)) (waiting : Waiting) (word : Text) (h : Held) → flag_word_fault c again o word h ≡ [] → P h.rows → P (long_or_other c waiting word o h).0.rows
  flag_word_kept (Some p) waiting word h none k =
      let met = long_met c (arg_by_long c p.0) p.1 h in
      after_kept waiting word met.0 met.1 (long_kept (λ a. not (is_some a.index) && has_long a p.0) (arg_by_long c p.0) p.1 h refl none k)
  flag_word_kept None waiting word h none k = flags_kept (short_of word) waiting word h none k

module _ (s : Shape) (names : Names) (P : List Row → Type 0) (keeps : Keeps s.rules s.args_override_self P) where
  word_kept : (is_trailing : Bool) (waiting : Waiting) (position : ℕ) (word : Text) (h : Held)
      → word_fault s names is_trailing waiting word h ≡ [] → P h.rows → P (word_met s.rules names is_trailing waiting position word h).0.rows
  word_kept true waiting position word h none p = p
  word_kept false waiting position word h none p = by_name (subcommand_met names waiting word) none
    where
      by_dashes : (b : Bool) → (if b then [] else flag_word_fault s.rules s.args_override_self (long_of word) word h) ≡ []
          → P (if b then (h, trailing position) else long_or_other s.rules waiting word (long_of word) h).0.rows
      by_dashes true e = p
      by_dashes false e = flag_word_kept s.rules s.args_override_self P keeps (long_of word) waiting word h e p

      by_name : (o : Option Text) → other_fault s o word h ≡ [] → P (subcommand_or_other s.rules o waiting position word h).0.rows
      by_name (Some name) e = p
      by_name None e = by_dashes (bytes_eq word (45 ∷ 45 ∷ [])) e

  taken_kept : (w : Walk) (word : Text) (h : Held) (step : Step) → step_fault s w.position h step ≡ [] → P h.rows → P (after_step s.rules word w h step).held.rows
  taken_kept w word h (next waiting) none p = p
  taken_kept w word h (trailing position) none p = p
  taken_kept w word h (subcommand name) none p = p
  taken_kept w word h value none p = by_index (arg_by_index s.rules w.position) none
    where
      by_index : (o : Option Rule) → option_map_or (λ a. positional_fault s.rules s.args_override_self a h) o (stray_fault s) ≡ [] → P (to_positional s.rules o word w h).held.rows
      by_index None e = p
      by_index (Some a) e = by_pending (is_pending a h.pending && takes_several a) e
        where
          by_pending : (b : Bool) → (if b then [] else settle_fault s.rules s.args_override_self h) ≡ [] → P (if b then h else settled s.rules h).rows
          by_pending true e = p
          by_pending false e = settled_kept s.rules s.args_override_self P keeps h e p

  turn_kept : (w : Walk) (word : Text) → turn_fault s names w word ≡ [] → P w.held.rows → P (walked s.rules names w word).held.rows
  unfolding walked
  turn_kept w word none p = by_stop w.stopped none
    where
      by_stop : (o : Option (Text × List Text))
          → (let met = word_met s.rules names w.is_trailing w.waiting w.position word w.held in
          if is_some o then [] else or_else (word_fault s names w.is_trailing w.waiting word w.held) (step_fault s w.position met.0 met.1)) ≡ []
          → P (walked_from s.rules names o w word).held.rows
      by_stop (Some stop) e = p
      by_stop None e =
          let met = word_met s.rules names w.is_trailing w.waiting w.position word w.held in
          let each = both_none (word_fault s names w.is_trailing w.waiting word w.held) (step_fault s w.position met.0 met.1) e in
          taken_kept w word met.0 met.1 each.1 (word_kept w.is_trailing w.waiting w.position word w.held each.0 p)

  walk_kept : (w : Walk) (words : List Text) → walk_fault s names w words ≡ [] → P w.held.rows → P (fold (walked s.rules names) w words).held.rows
  unfolding walk_fault
  walk_kept w [] none p = p
  walk_kept w (word ∷ rest) none p =
      let each = both_none (turn_fault s names w word) (walk_fault s names (walked s.rules names w word) rest) none in
      walk_kept (walked s.rules names w word) rest each.1 (turn_kept w word each.0 p)

  -- the rows at the end of a level, before defaults
  pub level_kept : (h : Held) (words : List Text) (below : Bool) (fault : Kinds) → level_fault s names h words below fault ≡ [] → P h.rows → P (settled s.rules (walk s.rules names h words).held).rows
  level_kept h words below fault none p =
      let end = (walk s.rules names h words).held in
      let first = both_none (walk_fault s names (walk_from h) words) _ none in
      let second = both_none fault _ first.1 in
      let third = both_none (settle_fault s.rules s.args_override_self end) _ second.1 in
      settled_kept s.rules s.args_override_self P keeps end third.0 (walk_kept (walk_from h) words first.0 p)
