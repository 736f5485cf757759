-- One piece further.
use Rattle.std.proofs.Common.{◌≡◌, ℕ, ◌+◌, ◌-◌, ◌<◌, ◌≤◌, ◌⊎◌, inl, inr, Bool, false, true, not, ◌&&◌, List, [], ◌∷◌, ◌++◌, length, slice_index, take, drop, map, refl, sym, ap, subst, ◌∙◌, arith, length-append, append_assoc}
use Rattle.std.specs.List.{All}
use Rattle.std.specs.Str.{IsUtf8}
use Rattle.std.proofs.lemmas.List.{take-append-drop, take_at, drop_at, length-take-le, length-drop, drop-drop, map_push, map-append, get_or-drop, take_all, drop_all}
use Rattle.std.proofs.lemmas.List.Elements.{All-push}
use Rattle.std.proofs.lemmas.Str.{IsUtf8-nil}
use Rattle.std.proofs.Math.Seq.{take-add}
use Rattle.kr_base.specs.declared.place.Place.{Place}
use Rattle.kr_base.specs.declared.refusal.RefusalAt.{RefusalAt}
use Rattle.kr_lex.specs.declared.kind.Kind.{Kind}
use Rattle.kr_lex.specs.declared.kind.Kind.TheVariants as kinds
use Rattle.kr_lex.specs.declared.token.Token.{Token}
use Rattle.kr_lex.specs.declared.contract.Head.{Head}
use Rattle.kr_lex.specs.declared.cursor.Cursor.{Cursor}
use Rattle.kr_lex.specs.declared.progress.Progress.{Progress}
use Rattle.kr_lex.specs.declared.refusal.LexRule.{LexRule}
use Rattle.kr_lex.specs.declared.refusal.LexRule.TheVariants as rules
use Rattle.kr_lex.specs.Characters.{is_line_end}
use Rattle.kr_lex.specs.Spelling.{spelling}
use Rattle.kr_lex.specs.Lexemes.{Lexeme}
use Rattle.kr_lex.specs.Entries.{lexeme_of, text_of, shown, IsEntry, AreEntries}
use Rattle.kr_lex.specs.Words.{IsNumber, IsLongNumber, IsToken, name, number, long_number, fixed}
use Rattle.kr_lex.specs.Gaps.{IsGap}
use Rattle.kr_lex.specs.Places.{place_after, column_after}
use Rattle.kr_lex.specs.ContractLines.{contract_spelling, head_of, IsContractWord}
use Rattle.kr_lex.specs.Spells.{Reaches, here, IsTokenHere, anywhere, within, stays, token_behind, AreTokens}
use Rattle.kr_lex.specs.Broken.{BreaksHere, IsFirstBroken, IsCause}
use Rattle.kr_lex.specs.Cursors.{Stands}
use Rattle.kr_lex.specs.Reading.{IsReading, IsPassed, IsPast, IsValidLength, IsClearBetween, IsEntryAt, ArePushed}
use Rattle.kr_lex.specs.Pieces.{BeginsCharacter, IsHead}
use Rattle.kr_lex.proofs.Paths.{then_gap, then_token, then_contract, head_behind, none_before}
use Rattle.kr_lex.proofs.Encoding.{reached_utf8, begins_character_at}
use Rattle.kr_lex.proofs.First.{first_reached, first_encoding}

-- the place of a cursor
pub place_there : (file col : ℕ) (bytes : List ℕ) (cursor : Cursor) → Stands bytes cursor → col + cursor.origin ≡ cursor.at + 1
    → record { file = file; line = cursor.line; col = col } ≡ place_after file (take cursor.at bytes)
unfolding place_after
place_there file col bytes cursor h e =
    let c : col ≡ column_after (take cursor.at bytes) = omega (arith, h.column, e) in
    rw (h.line, c) refl

pub place_is : (file : ℕ) (bytes : List ℕ) (cursor : Cursor) (place : Place) → Stands bytes cursor
    → place ≡ record { file = file; line = cursor.line; col = cursor.at + 1 - cursor.origin } → place ≡ place_after file (take cursor.at bytes)
place_is file bytes cursor place h e = e ∙ place_there file (cursor.at + 1 - cursor.origin) bytes cursor h (omega (arith, h.column))

-- reading on from a cursor
pub read_to : (file : ℕ) (bytes : List ℕ) (list : List Lexeme) (inside there : Bool) (at n next : ℕ) → next ≡ at + n → there ≡ inside
    → Reaches file false [] bytes list inside (take at bytes ++ take n (drop at bytes)) (drop n (drop at bytes)) → Reaches file false [] bytes list there (take next bytes) (drop next bytes)
read_to file bytes list inside there at n next e i d =
    let front : take at bytes ++ take n (drop at bytes) ≡ take next bytes = sym (take-add at n bytes) ∙ ap (λ k. take k bytes) (sym e) in
    let rest : drop n (drop at bytes) ≡ drop next bytes = drop-drop n at bytes ∙ ap (λ k. drop k bytes) (sym e) in
    subst (λ (q : Bool). Reaches file false [] bytes list q (take next bytes) (drop next bytes)) (sym i)
    (subst (λ (q : List ℕ). Reaches file false [] bytes list inside (take next bytes) q) rest
    (subst (λ (q : List ℕ). Reaches file false [] bytes list inside q (drop n (drop at bytes))) front d))

-- a clear stretch stays clear further on
clear_on : (bytes : List ℕ) (from next to there : ℕ) → IsClearBetween bytes from to → from ≤ next → there ≡ to → IsClearBetween bytes next there
clear_on bytes from next to there c l e k m o = c k (omega (arith, l, m)) (omega (arith, o, e))

-- the state after a gap, apart from its cursor
pub record IsBehind (bytes : List ℕ) (progress behind : Progress) : Type 0 where
  pub cursor : behind.cursor ≡ progress.cursor
  pub inside : behind.inside ≡ stays progress.inside (drop progress.cursor.at bytes)
  pub clear : behind.clear ≡ progress.clear

pub behind_is : (bytes : List ℕ) (progress behind : Progress) → behind.cursor ≡ progress.cursor → behind.inside ≡ (progress.inside && not (is_line_end (slice_index bytes progress.cursor.at)))
    → behind.clear ≡ progress.clear → IsBehind bytes progress behind
behind_is bytes progress behind c i e =
    let first : slice_index (drop progress.cursor.at bytes) 0 ≡ slice_index bytes progress.cursor.at =
    get_or-drop progress.cursor.at bytes 0 0 ∙ ap (slice_index bytes) (omega arith) in
    record { cursor = c; inside = i ∙ ap (λ b. progress.inside && not (is_line_end b)) (sym first); clear = e }

pub after_gap : (file : ℕ) (bytes : List ℕ) (valid : ℕ) (items : List Token) (progress behind : Progress) (n : ℕ) (next : Progress) → IsReading file bytes valid items progress
    → IsBehind bytes progress behind → IsGap (take n (drop progress.cursor.at bytes)) (drop n (drop progress.cursor.at bytes)) → IsPassed bytes valid behind n next
    → IsReading file bytes valid items next
after_gap file bytes valid items progress behind n next h b g p =
    let text = drop progress.cursor.at bytes in
    let at : next.cursor.at ≡ progress.cursor.at + n = p.at ∙ ap (λ c. c.at + n) b.cursor in
    record {
      stands = p.stands;
      before = p.before;
      reached = read_to file bytes (map (lexeme_of file bytes) items) (stays progress.inside text) next.inside progress.cursor.at n next.cursor.at at (p.inside ∙ b.inside)
          (then_gap (take n text) (drop n text) h.reached (sym (take-append-drop n text)) g);
      entries = h.entries;
      clear = clear_on bytes progress.cursor.at next.cursor.at progress.clear next.clear h.clear (omega (arith, at)) (p.clear ∙ b.clear);
    }

number_unspelled : length (spelling kinds.Number) ≡ 0
unfolding spelling
number_unspelled = refl

-- a number's text is one
number_text : (kind : Kind) (text rest : List ℕ) → IsToken kind text rest → kind ≡ kinds.Number → IsNumber text
number_text kind text rest (name e h n) k = let z : kinds.Identifier ≡ kinds.Number = sym e ∙ k in cc
number_text kind text rest (number e h w) k = h
number_text kind text rest (long_number e h w) k = let z : kinds.LongNumber ≡ kinds.Number = sym e ∙ k in cc
number_text kind text rest (fixed l e) k = absurd (omega (arith, l, ap length (e ∙ ap spelling k), number_unspelled))

number_here : (inside : Bool) (kind : Kind) (text rest : List ℕ) → IsTokenHere inside kind text rest → kind ≡ kinds.Number → IsNumber text
number_here inside kind text rest (anywhere t) k = number_text kind text rest t.token k
number_here inside kind text rest (within i t) k = go t.one_of
  where
    go : (kind ≡ kinds.Result) ⊎ (kind ≡ kinds.Old) → IsNumber text
    go (inl e) = let z : kinds.Result ≡ kinds.Number = sym e ∙ k in cc
    go (inr e) = let z : kinds.Old ≡ kinds.Number = sym e ∙ k in cc

long_unspelled : length (spelling kinds.LongNumber) ≡ 0
unfolding spelling
long_unspelled = refl

-- and that of a number with a suffix
long_text : (kind : Kind) (text rest : List ℕ) → IsToken kind text rest → kind ≡ kinds.LongNumber → IsLongNumber text
long_text kind text rest (name e h n) k = let z : kinds.Identifier ≡ kinds.LongNumber = sym e ∙ k in cc
long_text kind text rest (number e h w) k = let z : kinds.Number ≡ kinds.LongNumber = sym e ∙ k in cc
long_text kind text rest (long_number e h w) k = h
long_text kind text rest (fixed l e) k = absurd (omega (arith, l, ap length (e ∙ ap spelling k), long_unspelled))

long_here : (inside : Bool) (kind : Kind) (text rest : List ℕ) → IsTokenHere inside kind text rest → kind ≡ kinds.LongNumber → IsLongNumber text
long_here inside kind text rest (anywhere t) k = long_text kind text rest t.token k
long_here inside kind text rest (within i t) k = go t.one_of
  where
    go : (kind ≡ kinds.Result) ⊎ (kind ≡ kinds.Old) → IsLongNumber text
    go (inl e) = let z : kinds.Result ≡ kinds.LongNumber = sym e ∙ k in cc
    go (inr e) = let z : kinds.Old ≡ kinds.LongNumber = sym e ∙ k in cc

entry_text : (bytes : List ℕ) (cursor : Cursor) (kind : Kind) (n : ℕ) (t : Token) → IsEntryAt cursor kind n t → text_of bytes t ≡ take n (drop cursor.at bytes)
entry_text bytes cursor kind n t e =
    let size : t.end - t.start ≡ n = omega (arith, e.end_is, e.start_is) in
    ap (λ k. take k (drop t.start bytes)) size ∙ ap (λ k. take n (drop k bytes)) e.start_is

entry_lexeme : (file : ℕ) (bytes : List ℕ) (cursor : Cursor) (kind : Kind) (n : ℕ) (t : Token) → Stands bytes cursor → IsEntryAt cursor kind n t
    → lexeme_of file bytes t ≡ token_behind file (take cursor.at bytes) kind (take n (drop cursor.at bytes))
entry_lexeme file bytes cursor kind n t h e =
    let place : record { file = file; line = t.line; col = t.col } ≡ place_after file (take cursor.at bytes) =
    ap (λ l. record { file = file; line = l; col = t.col }) e.line_is ∙ place_there file t.col bytes cursor h e.col_is in
    made (text_of bytes t) (take n (drop cursor.at bytes)) t.kind kind (record { file = file; line = t.line; col = t.col }) (place_after file (take cursor.at bytes))
    e.kind_is (entry_text bytes cursor kind n t e) place
  where
    lexeme : Kind → List ℕ → Place → Lexeme
    lexeme kind text place = record { kind = kind; text = text; place = place }

    made : (a b : List ℕ) (k j : Kind) (p q : Place) → k ≡ j → a ≡ b → p ≡ q → lexeme k a p ≡ lexeme j b q
    made a b k j p q e f g =
        let first : lexeme k a p ≡ lexeme j a p = ap (λ x. lexeme x a p) e in
        let second : lexeme j a p ≡ lexeme j b p = ap (λ x. lexeme j x p) f in
        let third : lexeme j b p ≡ lexeme j b q = ap (λ x. lexeme j b x) g in
        first ∙ (second ∙ third)

pub after_token : (file : ℕ) (bytes : List ℕ) (valid : ℕ) (items : List Token) (progress : Progress) (kind : Kind) (n : ℕ) (next : Progress) (t : Token) → IsReading file bytes valid items progress
    → n ≤ length (drop progress.cursor.at bytes) → IsTokenHere progress.inside kind (take n (drop progress.cursor.at bytes)) (drop n (drop progress.cursor.at bytes))
    → IsEntryAt progress.cursor kind n t → IsPassed bytes valid progress n next → IsReading file bytes valid (items ++ t ∷ []) next
after_token file bytes valid items progress kind n next t h l g e p =
    let cursor = progress.cursor in
    let text = drop cursor.at bytes in
    let list = map (lexeme_of file bytes) items in
    let tokens : map (lexeme_of file bytes) (items ++ t ∷ []) ≡ list ++ token_behind file (take cursor.at bytes) kind (take n text) ∷ [] =
    map_push (lexeme_of file bytes) items t ∙ ap (λ x. list ++ x ∷ []) (entry_lexeme file bytes cursor kind n t h.stands e) in
    let d = then_token kind (take n text) (drop n text) h.reached (sym (take-append-drop n text)) g in
    record {
      stands = p.stands;
      before = p.before;
      reached = read_to file bytes (map (lexeme_of file bytes) (items ++ t ∷ [])) progress.inside next.inside cursor.at n next.cursor.at p.at p.inside (rw tokens d);
      entries = All-push (IsEntry bytes) items t h.entries (record {
        ordered = omega (arith, e.start_is, e.end_is);
        within = omega (arith, e.end_is, l, length-drop cursor.at bytes, h.stands.within);
        number = λ k. rw (entry_text bytes cursor kind n t e) (number_here progress.inside kind (take n text) (drop n text) g (sym e.kind_is ∙ k));
        long_number = λ k. rw (entry_text bytes cursor kind n t e) (long_here progress.inside kind (take n text) (drop n text) g (sym e.kind_is ∙ k));
      });
      clear = clear_on bytes cursor.at next.cursor.at progress.clear next.clear h.clear (omega (arith, p.at)) p.clear;
    }

-- the parts of how a contract line begins
module _ (text : List ℕ) (head : Head) (h : IsHead text head) where
  front_is : text ≡ (47 ∷ 47 ∷ 64 ∷ h.blank) ++ (contract_spelling head.kind ++ drop head.end text)
  front_is = h.contract.spelled ∙ append_assoc (47 ∷ 47 ∷ 64 ∷ h.blank) (contract_spelling head.kind) (drop head.end text)

  front_long : length (47 ∷ 47 ∷ 64 ∷ h.blank) ≡ head.word
  front_long = omega (arith, h.word)

  mark_text : take 3 text ≡ 47 ∷ 47 ∷ 64 ∷ []
  mark_text = ap (take 3) front_is ∙ take_at (47 ∷ 47 ∷ 64 ∷ []) (h.blank ++ (contract_spelling head.kind ++ drop head.end text)) 3 (omega arith)

  blank_text : take head.word text ≡ 47 ∷ 47 ∷ 64 ∷ h.blank
  blank_text = ap (take head.word) front_is ∙ take_at (47 ∷ 47 ∷ 64 ∷ h.blank) (contract_spelling head.kind ++ drop head.end text) head.word front_long

  word_text : take (head.end - head.word) (drop head.word text) ≡ contract_spelling head.kind
  word_text =
      let rest : drop head.word text ≡ contract_spelling head.kind ++ drop head.end text =
      ap (drop head.word) front_is ∙ drop_at (47 ∷ 47 ∷ 64 ∷ h.blank) (contract_spelling head.kind ++ drop head.end text) head.word front_long in
      ap (take (head.end - head.word)) rest ∙ take_at (contract_spelling head.kind) (drop head.end text) (head.end - head.word) (omega (arith, h.end))

  head_text : take head.end text ≡ head_of head.kind h.blank
  head_text =
      let long : length (head_of head.kind h.blank) ≡ head.end = length-append (47 ∷ 47 ∷ 64 ∷ h.blank) (contract_spelling head.kind) ∙ omega (arith, front_long, h.end) in
      ap (take head.end) h.contract.spelled ∙ take_at (head_of head.kind h.blank) (drop head.end text) head.end long

module _ (file : ℕ) (bytes : List ℕ) (valid : ℕ) (items after : List Token) (progress : Progress) (head : Head) (r : IsReading file bytes valid items progress)
    (h : IsHead (drop progress.cursor.at bytes) head) (p : ArePushed bytes progress.cursor head items after) where
  mark_lexeme : lexeme_of file bytes p.mark ≡ token_behind file (take progress.cursor.at bytes) kinds.Contract (47 ∷ 47 ∷ 64 ∷ [])
  mark_lexeme =
      entry_lexeme file bytes progress.cursor kinds.Contract 3 p.mark r.stands p.mark_is
      ∙ ap (token_behind file (take progress.cursor.at bytes) kinds.Contract) (mark_text (drop progress.cursor.at bytes) head h)

  word_lexeme : lexeme_of file bytes p.word ≡ token_behind file (take progress.cursor.at bytes ++ 47 ∷ 47 ∷ 64 ∷ h.blank) head.kind (contract_spelling head.kind)
  word_lexeme =
      let front : take p.there.at bytes ≡ take progress.cursor.at bytes ++ 47 ∷ 47 ∷ 64 ∷ h.blank =
      ap (λ k. take k bytes) p.at ∙ (take-add progress.cursor.at head.word bytes ∙ ap (λ t. take progress.cursor.at bytes ++ t) (blank_text (drop progress.cursor.at bytes) head h)) in
      let rest : drop p.there.at bytes ≡ drop head.word (drop progress.cursor.at bytes) = ap (λ k. drop k bytes) p.at ∙ sym (drop-drop head.word progress.cursor.at bytes) in
      let spelled : take (head.end - head.word) (drop p.there.at bytes) ≡ contract_spelling head.kind =
      ap (take (head.end - head.word)) rest ∙ word_text (drop progress.cursor.at bytes) head h in
      entry_lexeme file bytes p.there head.kind (head.end - head.word) p.word p.stands p.word_is
      ∙ (ap (λ f. token_behind file f head.kind (take (head.end - head.word) (drop p.there.at bytes))) front
      ∙ ap (token_behind file (take progress.cursor.at bytes ++ 47 ∷ 47 ∷ 64 ∷ h.blank) head.kind) spelled)

  head_tokens : map (lexeme_of file bytes) after ≡ map (lexeme_of file bytes) items ++ head_behind file (take progress.cursor.at bytes) head.kind h.blank
  head_tokens =
      let f = lexeme_of file bytes in
      ap (map f) p.items
      ∙ (map-append f items (p.mark ∷ p.word ∷ [])
      ∙ (ap (λ x. map f items ++ x ∷ f p.word ∷ []) mark_lexeme
      ∙ ap (λ x. map f items ++ token_behind file (take progress.cursor.at bytes) kinds.Contract (47 ∷ 47 ∷ 64 ∷ []) ∷ x ∷ []) word_lexeme))

  -- the way through it
  way : Reaches file false [] bytes (map (lexeme_of file bytes) after) true (take progress.cursor.at bytes ++ take head.end (drop progress.cursor.at bytes)) (drop head.end (drop progress.cursor.at bytes))
  way =
      let text = drop progress.cursor.at bytes in
      let d = then_contract head.kind h.blank (drop head.end text) r.reached h.contract in
      subst (λ (q : List ℕ). Reaches file false [] bytes (map (lexeme_of file bytes) after) true (take progress.cursor.at bytes ++ q) (drop head.end text)) (sym (head_text text head h))
      (subst (λ (q : List Lexeme). Reaches file false [] bytes q true (take progress.cursor.at bytes ++ head_of head.kind h.blank) (drop head.end text)) (sym head_tokens) d)

  word_no_number : head.kind ≡ kinds.Number → ⊥
  word_no_number k = go h.contract.word
    where
      go : IsContractWord head.kind → ⊥
      go (inl e) = let z : kinds.Requires ≡ kinds.Number = sym e ∙ k in cc
      go (inr (inl e)) = let z : kinds.Ensures ≡ kinds.Number = sym e ∙ k in cc
      go (inr (inr e)) = let z : kinds.Signals ≡ kinds.Number = sym e ∙ k in cc

  word_no_long : head.kind ≡ kinds.LongNumber → ⊥
  word_no_long k = go h.contract.word
    where
      go : IsContractWord head.kind → ⊥
      go (inl e) = let z : kinds.Requires ≡ kinds.LongNumber = sym e ∙ k in cc
      go (inr (inl e)) = let z : kinds.Ensures ≡ kinds.LongNumber = sym e ∙ k in cc
      go (inr (inr e)) = let z : kinds.Signals ≡ kinds.LongNumber = sym e ∙ k in cc

  head_entries : AreEntries bytes after
  head_entries =
      let within : progress.cursor.at + head.end ≤ length bytes = omega (arith, h.within, length-drop progress.cursor.at bytes, r.stands.within) in
      let mark : IsEntry bytes p.mark = record {
        ordered = omega (arith, p.mark_is.start_is, p.mark_is.end_is);
        within = omega (arith, p.mark_is.end_is, within, h.word, h.end);
        number = λ k. let z : kinds.Contract ≡ kinds.Number = sym p.mark_is.kind_is ∙ k in cc;
        long_number = λ k. let z : kinds.Contract ≡ kinds.LongNumber = sym p.mark_is.kind_is ∙ k in cc;
      } in
      let word : IsEntry bytes p.word = record {
        ordered = omega (arith, p.word_is.start_is, p.word_is.end_is);
        within = omega (arith, p.word_is.end_is, p.at, within, h.end);
        number = λ k. absurd (word_no_number (sym p.word_is.kind_is ∙ k));
        long_number = λ k. absurd (word_no_long (sym p.word_is.kind_is ∙ k));
      } in
      let both : All (IsEntry bytes) ((items ++ p.mark ∷ []) ++ p.word ∷ []) = All-push (IsEntry bytes) (items ++ p.mark ∷ []) p.word (All-push (IsEntry bytes) items p.mark r.entries mark) word in
      subst (λ (q : List Token). AreEntries bytes q) (append_assoc items (p.mark ∷ []) (p.word ∷ []) ∙ sym p.items) both

  pub after_head : (clear : ℕ) (next : Progress) → IsClearBetween bytes progress.cursor.at clear → IsPassed bytes valid (record { cursor = progress.cursor; inside = true; clear = clear }) head.end next
      → IsReading file bytes valid after next
  after_head clear next c q =
      record {
        stands = q.stands;
        before = q.before;
        reached = read_to file bytes (map (lexeme_of file bytes) after) true next.inside progress.cursor.at head.end next.cursor.at q.at q.inside way;
        entries = head_entries;
        clear = clear_on bytes progress.cursor.at next.cursor.at clear next.clear c (omega (arith, q.at)) q.clear;
      }

-- nothing was read yet
pub nothing_read : (file : ℕ) (bytes : List ℕ) (valid : ℕ) (progress : Progress) → progress ≡ record { cursor = record { at = 0; line = 1; origin = 0 }; inside = false; clear = 0 }
    → IsReading file bytes valid [] progress
nothing_read file bytes valid progress e =
    rw e (record {
      stands = record { within = omega arith; line = omega arith; column = omega arith };
      before = omega arith;
      reached = here;
      entries = λ k d l. absurd (omega (arith, l));
      clear = λ k l m. absurd (omega (arith, m));
    })

-- a character begins where the bytes go on
pub character_there : (file : ℕ) (bytes : List ℕ) (valid : ℕ) (items : List Token) (progress : Progress) → IsValidLength bytes valid → IsReading file bytes valid items progress
    → progress.cursor.at < valid → BeginsCharacter (drop progress.cursor.at bytes)
character_there file bytes valid items progress v h l =
    let long : length (take progress.cursor.at bytes) ≡ progress.cursor.at = length-take-le progress.cursor.at bytes h.stands.within in
    begins_character_at bytes valid progress.cursor.at v l (reached_utf8 bytes valid v h.reached refl IsUtf8-nil (omega (arith, long, l)))

-- a rule broken at the cursor is the first one broken
pub broken_there : (file : ℕ) (bytes : List ℕ) (valid : ℕ) (items : List Token) (progress : Progress) (rule : LexRule) (place : Place) → IsValidLength bytes valid
    → IsReading file bytes valid items progress → progress.cursor.at < valid → BreaksHere progress.inside rule (drop progress.cursor.at bytes)
    → place ≡ record { file = file; line = progress.cursor.line; col = progress.cursor.at + 1 - progress.cursor.origin } → IsFirstBroken file bytes place rule
broken_there file bytes valid items progress rule place v h l b p =
    let at = progress.cursor.at in
    let long : length (take at bytes) ≡ at = length-take-le at bytes h.stands.within in
    first_reached file bytes valid v progress.inside (take at bytes) (drop at bytes) (map (lexeme_of file bytes) items) place rule h.reached (omega (arith, long, l)) b
    (place_is file bytes progress.cursor place h.stands p)

-- the encoding breaks before what was reached ends, or just there
encoding_first : (file : ℕ) (bytes : List ℕ) (valid : ℕ) (list : List Lexeme) (inside : Bool) (end left : List ℕ) (place : Place) → IsValidLength bytes valid
    → Reaches file false [] bytes list inside end left → valid ≤ length end → valid < length bytes → place ≡ place_after file (take valid bytes) → IsFirstBroken file bytes place rules.NotUtf8
encoding_first file bytes valid list inside end left place v d l short p =
    first_encoding file bytes valid v place short p (λ there more other rest r c b. omega (arith, none_before r d c b, l))

pub encoding_at_end : (file : ℕ) (bytes : List ℕ) (valid : ℕ) (items : List Token) (progress : Progress) (place : Place) → IsValidLength bytes valid
    → IsReading file bytes valid items progress → valid ≤ progress.cursor.at → valid < length bytes
    → place ≡ record { file = file; line = progress.cursor.line; col = progress.cursor.at + 1 - progress.cursor.origin } → IsFirstBroken file bytes place rules.NotUtf8
encoding_at_end file bytes valid items progress place v h l short p =
    let at = progress.cursor.at in
    let long : length (take at bytes) ≡ at = length-take-le at bytes h.stands.within in
    let same : at ≡ valid = omega (arith, l, h.before) in
    encoding_first file bytes valid (map (lexeme_of file bytes) items) progress.inside (take at bytes) (drop at bytes) place v h.reached (omega (arith, long, l)) short
    (place_is file bytes progress.cursor place h.stands p ∙ ap (λ k. place_after file (take k bytes)) same)

past : (file : ℕ) (bytes : List ℕ) (valid at n : ℕ) (list : List Lexeme) (inside : Bool) (left : List ℕ) (refusal : RefusalAt LexRule) → IsValidLength bytes valid → at ≤ length bytes
    → n ≤ length (drop at bytes) → Reaches file false [] bytes list inside (take at bytes ++ take n (drop at bytes)) left → IsPast file bytes valid (at + n) refusal → IsCause file bytes refusal
past file bytes valid at n list inside left refusal v w l d p =
    let long : length (take at bytes ++ take n (drop at bytes)) ≡ at + n =
    length-append (take at bytes) (take n (drop at bytes)) ∙ omega (arith, length-take-le at bytes w, length-take-le n (drop at bytes) l) in
    rw p.at (encoding_first file bytes valid list inside (take at bytes ++ take n (drop at bytes)) left (place_after file (take valid bytes)) v d (omega (arith, long, p.before))
    (omega (arith, length-drop at bytes, l, p.before, w)) refl)

pub past_gap : (file : ℕ) (bytes : List ℕ) (valid : ℕ) (items : List Token) (progress behind : Progress) (n : ℕ) (refusal : RefusalAt LexRule) → IsValidLength bytes valid
    → IsReading file bytes valid items progress → IsBehind bytes progress behind → n ≤ length (drop progress.cursor.at bytes)
    → IsGap (take n (drop progress.cursor.at bytes)) (drop n (drop progress.cursor.at bytes)) → IsPast file bytes valid (behind.cursor.at + n) refusal → IsCause file bytes refusal
past_gap file bytes valid items progress behind n refusal v h b l g p =
    let text = drop progress.cursor.at bytes in
    let here : IsPast file bytes valid (progress.cursor.at + n) refusal = rw (ap (λ c. c.at + n) b.cursor) at p in
    past file bytes valid progress.cursor.at n (map (lexeme_of file bytes) items) (stays progress.inside text) (drop n text) refusal v h.stands.within l
    (then_gap (take n text) (drop n text) h.reached (sym (take-append-drop n text)) g) here

pub past_token : (file : ℕ) (bytes : List ℕ) (valid : ℕ) (items : List Token) (progress : Progress) (kind : Kind) (n : ℕ) (refusal : RefusalAt LexRule) → IsValidLength bytes valid
    → IsReading file bytes valid items progress → n ≤ length (drop progress.cursor.at bytes)
    → IsTokenHere progress.inside kind (take n (drop progress.cursor.at bytes)) (drop n (drop progress.cursor.at bytes))
    → IsPast file bytes valid (progress.cursor.at + n) refusal → IsCause file bytes refusal
past_token file bytes valid items progress kind n refusal v h l g p =
    let text = drop progress.cursor.at bytes in
    past file bytes valid progress.cursor.at n (map (lexeme_of file bytes) items ++ token_behind file (take progress.cursor.at bytes) kind (take n text) ∷ []) progress.inside (drop n text)
    refusal v h.stands.within l (then_token kind (take n text) (drop n text) h.reached (sym (take-append-drop n text)) g) p

pub past_head : (file : ℕ) (bytes : List ℕ) (valid : ℕ) (items after : List Token) (progress : Progress) (head : Head) (refusal : RefusalAt LexRule) → IsValidLength bytes valid
    → IsReading file bytes valid items progress → IsHead (drop progress.cursor.at bytes) head → ArePushed bytes progress.cursor head items after
    → IsPast file bytes valid (progress.cursor.at + head.end) refusal → IsCause file bytes refusal
past_head file bytes valid items after progress head refusal v r h p q =
    past file bytes valid progress.cursor.at head.end (map (lexeme_of file bytes) after) true (drop head.end (drop progress.cursor.at bytes)) refusal v r.stands.within h.within
    (way file bytes valid items after progress head r h p) q

-- all was read
pub all_read : (file : ℕ) (bytes : List ℕ) (valid : ℕ) (items : List Token) (progress : Progress) (place : Place) → IsValidLength bytes valid → IsReading file bytes valid items progress
    → progress.cursor.at ≡ length bytes → place ≡ record { file = file; line = progress.cursor.line; col = progress.cursor.at + 1 - progress.cursor.origin }
    → AreTokens file bytes (shown place bytes items)
unfolding place_after
all_read file bytes valid items progress place v h z p =
    let at = progress.cursor.at in
    let front : take at bytes ≡ bytes = take_all at bytes (omega (arith, z)) in
    let rest : drop at bytes ≡ [] = drop_all at bytes (omega (arith, z)) in
    record {
      utf8 = utf8_all v;
      spelled = rw (ap (λ q. q.file) p) (
        progress.inside,
        subst (λ (q : List ℕ). Reaches file false [] bytes (map (lexeme_of file bytes) items) progress.inside bytes q) rest
            (subst (λ (q : List ℕ). Reaches file false [] bytes (map (lexeme_of file bytes) items) progress.inside q (drop at bytes)) front h.reached),
      );
      end = place_is file bytes progress.cursor place h.stands p ∙ ap (place_after file) front;
    }
  where
    utf8_all : IsValidLength bytes valid → IsUtf8 bytes
    utf8_all (inl w) = w.1
    utf8_all (inr w) = absurd (omega (arith, w.short, h.before, z))
