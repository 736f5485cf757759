-- The line of an event is read as the event.
use Rattle.std.proofs.Common.{◌≡◌, ℕ, ◌^◌, ◌<◌, Bool, true, false, List, [], ◌∷◌, ◌++◌, refl, sym, ap, ◌∙◌, append_assoc, append-nil, decimal}
use Rattle.std.specs.Prelude.{Option, Some, None, codes, if◌then◌else◌, option_and_then}
use Rattle.std.specs.Option.{option_map}
use Rattle.kr_base.specs.declared.span.Bound.{Bound}
use Rattle.kr_base.specs.Cuts.{cut_text}
use Rattle.kr_base.specs.Parsing.{cut_of}
use Rattle.kr_text.specs.Splitting.{IsWithout, number_of}
use Rattle.kr_core.specs.declared.event.Event.{Event}
use Rattle.kr_core.specs.declared.event.Event.TheVariants.{Take, Steal, Report, GiveUp, Drain, StopAt, Look}
use Rattle.kr_report_streaming.specs.Traces.{bound_text, counts_text}
use Rattle.kr_trace.specs.declared.words.Held.{Held}
use Rattle.kr_trace.specs.declared.events.Counts.{Counts}
use Rattle.kr_trace.specs.Words.{bound_of, counts_in, drained_in, event_of, held_in, looked_in, reported_in, seat_of, spent_in, stolen_in, stopped_in, words_in}
use Rattle.kr_shard_laws.proofs.Bytes.{without_append}
use Rattle.korat_top_laws.specs.Printed.{EventLaw, IsPrintable, IsReadBack, IsShown, IsShownBound}
use Rattle.korat_top_laws.proofs.Pieces.{IsWord, alone, bound_back, bound_word, cut_word, number_back, number_word, seat_back, spaced}

-- ---- what words say

held_back : (a b : List ℕ) (seat n : ℕ) → seat_of a ≡ Some seat → number_of b ≡ Some n → held_in (a ∷ b ∷ []) ≡ Some (record { seat = seat; segment = n })
held_back a b seat n s m =
    ap (option_and_then (λ (k : ℕ). option_map (λ (j : ℕ). record { seat = k; segment = j }) (number_of b))) s
    ∙ ap (option_map (λ (j : ℕ). record { seat = seat; segment = j })) m

stolen_back : (a b c d : List ℕ) (seat victim n : ℕ) (cut : List ℕ) → seat_of a ≡ Some seat → number_of b ≡ Some victim → cut_of c ≡ Some cut → number_of d ≡ Some n
    → stolen_in (a ∷ b ∷ c ∷ d ∷ []) ≡ Some (Steal seat victim cut n)
stolen_back a b c d seat victim n cut s v k m =
    ap (option_and_then (λ (x : ℕ). option_and_then (λ (y : ℕ). option_and_then (λ (z : ℕ). option_map (λ (t : List ℕ). Steal x y t z) (cut_of c)) (number_of d)) (number_of b))) s
    ∙ (ap (option_and_then (λ (y : ℕ). option_and_then (λ (z : ℕ). option_map (λ (t : List ℕ). Steal seat y t z) (cut_of c)) (number_of d))) v
    ∙ (ap (option_and_then (λ (z : ℕ). option_map (λ (t : List ℕ). Steal seat victim t z) (cut_of c))) m
    ∙ ap (option_map (λ (t : List ℕ). Steal seat victim t n)) k))

counts_back : (a b d e : List ℕ) (ws : List (List ℕ)) (seat n rows tried : ℕ) (spent : Bool) → seat_of a ≡ Some seat → number_of b ≡ Some n → number_of d ≡ Some rows → number_of e ≡ Some tried → spent_in ws ≡ Some spent
    → counts_in a b d e ws ≡ Some (record { seat = seat; segment = n; rows = rows; tried = tried; spent = spent })
counts_back a b d e ws seat n rows tried spent s m r t p =
    ap (option_and_then (λ (x : ℕ). option_and_then (λ (y : ℕ). option_and_then (λ (z : ℕ). option_and_then (λ (u : ℕ). option_map (λ (v : Bool). record { seat = x; segment = y; rows = z; tried = u; spent = v }) (spent_in ws)) (number_of e)) (number_of d)) (number_of b))) s
    ∙ (ap (option_and_then (λ (y : ℕ). option_and_then (λ (z : ℕ). option_and_then (λ (u : ℕ). option_map (λ (v : Bool). record { seat = seat; segment = y; rows = z; tried = u; spent = v }) (spent_in ws)) (number_of e)) (number_of d))) m
    ∙ (ap (option_and_then (λ (z : ℕ). option_and_then (λ (u : ℕ). option_map (λ (v : Bool). record { seat = seat; segment = n; rows = z; tried = u; spent = v }) (spent_in ws)) (number_of e))) r
    ∙ (ap (option_and_then (λ (u : ℕ). option_map (λ (v : Bool). record { seat = seat; segment = n; rows = rows; tried = u; spent = v }) (spent_in ws))) t
    ∙ ap (option_map (λ (v : Bool). record { seat = seat; segment = n; rows = rows; tried = tried; spent = v })) p)))

reported_back : (a b c d e : List ℕ) (ws : List (List ℕ)) (seat n rows tried : ℕ) (reach : Bound) (spent : Bool)
    → counts_in a b d e ws ≡ Some (record { seat = seat; segment = n; rows = rows; tried = tried; spent = spent }) → bound_of c ≡ Some reach
    → reported_in (a ∷ b ∷ c ∷ d ∷ e ∷ ws) ≡ Some (Report seat n reach rows tried spent)
reported_back a b c d e ws seat n rows tried reach spent counts bound =
    ap (option_and_then (λ (x : Counts). option_map (λ (y : Bound). Report x.seat x.segment y x.rows x.tried x.spent) (bound_of c))) counts
    ∙ ap (option_map (λ (y : Bound). Report seat n y rows tried spent)) bound

-- ---- lines of words

two_words : (a b : List ℕ) → IsWord a → IsWord b → words_in (a ++ 32 ∷ b) ≡ a ∷ b ∷ []
two_words a b h k = spaced a b h.one_word ∙ ap (λ (ws : List (List ℕ)). a ∷ ws) (alone b k.one_word)

two_line : (word a b : List ℕ) → IsWithout 10 word → IsWord a → IsWord b → IsWithout 10 (word ++ (a ++ 32 ∷ b))
two_line word a b w h k = without_append 10 word (a ++ 32 ∷ b) w (without_append 10 a (32 ∷ b) h.one_line (refl, k.one_line))

two_text : (word a b : List ℕ) → word ++ (a ++ (32 ∷ (b ++ 10 ∷ []))) ≡ (word ++ (a ++ 32 ∷ b)) ++ 10 ∷ []
two_text word a b = simp append_assoc

one_text : (word a : List ℕ) → word ++ (a ++ 10 ∷ []) ≡ (word ++ a) ++ 10 ∷ []
one_text word a = simp append_assoc

four_text : (word a b c d : List ℕ) → (word ++ (a ++ (32 ∷ (b ++ 32 ∷ [])))) ++ (c ++ (32 ∷ (d ++ 10 ∷ []))) ≡ (word ++ (a ++ 32 ∷ (b ++ 32 ∷ (c ++ 32 ∷ d)))) ++ 10 ∷ []
four_text word a b c d = simp append_assoc

five_text : (word a b c d e t : List ℕ) → (word ++ (a ++ (32 ∷ (b ++ 32 ∷ [])))) ++ (c ++ (32 ∷ (d ++ (32 ∷ (e ++ (t ++ 10 ∷ [])))))) ≡ (word ++ (a ++ 32 ∷ (b ++ 32 ∷ (c ++ 32 ∷ (d ++ 32 ∷ (e ++ t)))))) ++ 10 ∷ []
five_text word a b c d e t = simp append_assoc

four_line : (word a b c d : List ℕ) → IsWithout 10 word → IsWord a → IsWord b → IsWord c → IsWithout 10 d → IsWithout 10 (word ++ (a ++ 32 ∷ (b ++ 32 ∷ (c ++ 32 ∷ d))))
four_line word a b c d w h k j i =
    without_append 10 word (a ++ 32 ∷ (b ++ 32 ∷ (c ++ 32 ∷ d))) w
    (without_append 10 a (32 ∷ (b ++ 32 ∷ (c ++ 32 ∷ d))) h.one_line (
      refl,
      without_append 10 b (32 ∷ (c ++ 32 ∷ d)) k.one_line
          (refl, without_append 10 c (32 ∷ d) j.one_line (refl, i)),
    ))

three_words : (a b c rest : List ℕ) → IsWord a → IsWord b → IsWord c → words_in (a ++ 32 ∷ (b ++ 32 ∷ (c ++ 32 ∷ rest))) ≡ a ∷ b ∷ c ∷ words_in rest
three_words a b c rest h k j =
    spaced a (b ++ 32 ∷ (c ++ 32 ∷ rest)) h.one_word
    ∙ (ap (λ (ws : List (List ℕ)). a ∷ ws) (spaced b (c ++ 32 ∷ rest) k.one_word)
    ∙ ap (λ (ws : List (List ℕ)). a ∷ b ∷ ws) (spaced c rest j.one_word))

-- ---- events

taken : (seat n : ℕ) → seat < 2 ^ 32 → n < 2 ^ 64 → IsReadBack (Take seat n)
taken seat n s m = record {
  line = codes "take " ++ (decimal seat ++ 32 ∷ decimal n);
  text = two_text (codes "take ") (decimal seat) (decimal n);
  one = two_line (codes "take ") (decimal seat) (decimal n) (refl, (refl, (refl, (refl, (refl, tt))))) (number_word seat) (number_word n);
  read = ap (λ (ws : List (List ℕ)). event_of (codes "take" ∷ ws)) (two_words (decimal seat) (decimal n) (number_word seat) (number_word n))
      ∙ ap (option_map (λ (h : Held). Take h.seat h.segment)) (held_back (decimal seat) (decimal n) seat n (seat_back seat s) (number_back n m));
}

given_up : (seat n : ℕ) → seat < 2 ^ 32 → n < 2 ^ 64 → IsReadBack (GiveUp seat n)
given_up seat n s m = record {
  line = codes "giveup " ++ (decimal seat ++ 32 ∷ decimal n);
  text = two_text (codes "giveup ") (decimal seat) (decimal n);
  one = two_line (codes "giveup ") (decimal seat) (decimal n) (refl, (refl, (refl, (refl, (refl, (refl, (refl, tt))))))) (number_word seat) (number_word n);
  read = ap (λ (ws : List (List ℕ)). event_of (codes "giveup" ∷ ws)) (two_words (decimal seat) (decimal n) (number_word seat) (number_word n))
      ∙ ap (option_map (λ (h : Held). GiveUp h.seat h.segment)) (held_back (decimal seat) (decimal n) seat n (seat_back seat s) (number_back n m));
}

drained : (rows : ℕ) → rows < 2 ^ 64 → IsReadBack (Drain rows)
drained rows h = record {
  line = codes "drain " ++ decimal rows;
  text = one_text (codes "drain ") (decimal rows);
  one = without_append 10 (codes "drain ") (decimal rows) (refl, (refl, (refl, (refl, (refl, (refl, tt)))))) (number_word rows).one_line;
  read = ap (λ (ws : List (List ℕ)). event_of (codes "drain" ∷ ws)) (alone (decimal rows) (number_word rows).one_word)
      ∙ ap (option_map (λ (k : ℕ). Drain k)) (number_back rows h);
}

looked : (seat : ℕ) → seat < 2 ^ 32 → IsReadBack (Look seat)
looked seat h = record {
  line = codes "look " ++ decimal seat;
  text = one_text (codes "look ") (decimal seat);
  one = without_append 10 (codes "look ") (decimal seat) (refl, (refl, (refl, (refl, (refl, tt))))) (number_word seat).one_line;
  read = ap (λ (ws : List (List ℕ)). event_of (codes "look" ∷ ws)) (alone (decimal seat) (number_word seat).one_word)
      ∙ ap (option_map (λ (k : ℕ). Look k)) (seat_back seat h);
}

stolen : (seat victim n : ℕ) (cut : List ℕ) → seat < 2 ^ 32 → victim < 2 ^ 64 → IsShown cut → n < 2 ^ 64 → IsReadBack (Steal seat victim cut n)
stolen seat victim n cut s v c m = record {
  line = codes "steal " ++ (decimal seat ++ 32 ∷ (decimal victim ++ 32 ∷ (cut_text cut ++ 32 ∷ decimal n)));
  text = four_text (codes "steal ") (decimal seat) (decimal victim) (cut_text cut) (decimal n);
  one = four_line (codes "steal ") (decimal seat) (decimal victim) (cut_text cut) (decimal n) (refl, (refl, (refl, (refl, (refl, (refl, tt)))))) (number_word seat) (number_word victim) (cut_word cut) (number_word n).one_line;
  read = ap (λ (ws : List (List ℕ)). event_of (codes "steal" ∷ ws))
      (three_words (decimal seat) (decimal victim) (cut_text cut) (decimal n) (number_word seat) (number_word victim) (cut_word cut)
      ∙ ap (λ (ws : List (List ℕ)). decimal seat ∷ decimal victim ∷ cut_text cut ∷ ws) (alone (decimal n) (number_word n).one_word))
      ∙ stolen_back (decimal seat) (decimal victim) (cut_text cut) (decimal n) seat victim n cut (seat_back seat s) (number_back victim v) c (number_back n m);
}

-- a report's end: nothing, or ` spent`
spent_tail : Bool → List ℕ
spent_tail true = codes " spent"
spent_tail false = []

spent_words : Bool → List (List ℕ)
spent_words true = codes "spent" ∷ []
spent_words false = []

tail_text : (rows tried : ℕ) (spent : Bool) → counts_text rows tried spent ≡ 32 ∷ (decimal rows ++ (32 ∷ (decimal tried ++ (spent_tail spent ++ 10 ∷ []))))
unfolding spent_tail
tail_text rows tried true = refl
tail_text rows tried false = refl

tail_line : (spent : Bool) → IsWithout 10 (spent_tail spent)
unfolding spent_tail
tail_line true = (refl, (refl, (refl, (refl, (refl, (refl, tt))))))
tail_line false = tt

tail_words : (word : List ℕ) (spent : Bool) → IsWord word → words_in (word ++ spent_tail spent) ≡ word ∷ spent_words spent
unfolding spent_tail spent_words
tail_words word true h = spaced word (codes "spent") h.one_word
tail_words word false h = ap words_in (append-nil word) ∙ alone word h.one_word

spent_back : (spent : Bool) → spent_in (spent_words spent) ≡ Some spent
unfolding spent_words
spent_back true = refl
spent_back false = refl

reported : (seat n rows tried : ℕ) (reach : Bound) (spent : Bool) → seat < 2 ^ 32 → n < 2 ^ 64 → IsShownBound reach → rows < 2 ^ 64 → tried < 2 ^ 64 → IsReadBack (Report seat n reach rows tried spent)
reported seat n rows tried reach spent s m b r t =
    let tail = spent_tail spent in
    let counts = decimal rows ++ 32 ∷ (decimal tried ++ tail) in
    let count_words : words_in counts ≡ decimal rows ∷ decimal tried ∷ spent_words spent =
    spaced (decimal rows) (decimal tried ++ tail) (number_word rows).one_word ∙ ap (λ (ws : List (List ℕ)). decimal rows ∷ ws) (tail_words (decimal tried) spent (number_word tried)) in
    let count_line : IsWithout 10 counts =
    without_append 10 (decimal rows) (32 ∷ (decimal tried ++ tail)) (number_word rows).one_line (refl, without_append 10 (decimal tried) tail (number_word tried).one_line (tail_line spent)) in
    record {
      line = codes "report " ++ (decimal seat ++ 32 ∷ (decimal n ++ 32 ∷ (bound_text reach ++ 32 ∷ counts)));
      text = ap (λ (x : List ℕ). (codes "report " ++ (decimal seat ++ (32 ∷ (decimal n ++ 32 ∷ [])))) ++ (bound_text reach ++ x)) (tail_text rows tried spent)
          ∙ five_text (codes "report ") (decimal seat) (decimal n) (bound_text reach) (decimal rows) (decimal tried) tail;
      one = four_line (codes "report ") (decimal seat) (decimal n) (bound_text reach) counts (refl, (refl, (refl, (refl, (refl, (refl, (refl, tt))))))) (number_word seat) (number_word n) (bound_word reach) count_line;
      read = ap (λ (ws : List (List ℕ)). event_of (codes "report" ∷ ws))
          (three_words (decimal seat) (decimal n) (bound_text reach) counts (number_word seat) (number_word n) (bound_word reach)
          ∙ ap (λ (ws : List (List ℕ)). decimal seat ∷ decimal n ∷ bound_text reach ∷ ws) count_words)
          ∙ reported_back (decimal seat) (decimal n) (bound_text reach) (decimal rows) (decimal tried) (spent_words spent) seat n rows tried reach spent
          (counts_back (decimal seat) (decimal n) (decimal rows) (decimal tried) (spent_words spent) seat n rows tried spent (seat_back seat s) (number_back n m) (number_back rows r) (number_back tried t) (spent_back spent))
          (bound_back reach b);
    }

stopped : (n : ℕ) (ns : List ℕ) → IsShown (n ∷ ns) → IsReadBack (StopAt (n ∷ ns))
stopped n ns h = record {
  line = codes "stop " ++ cut_text (n ∷ ns);
  text = one_text (codes "stop ") (cut_text (n ∷ ns));
  one = without_append 10 (codes "stop ") (cut_text (n ∷ ns)) (refl, (refl, (refl, (refl, (refl, tt))))) (cut_word (n ∷ ns)).one_line;
  read = ap (λ (ws : List (List ℕ)). event_of (codes "stop" ∷ ws)) (alone (cut_text (n ∷ ns)) (cut_word (n ∷ ns)).one_word)
      ∙ ap (option_map (λ (m : List ℕ). StopAt m)) h;
}

pub event_back : EventLaw
event_back (Take seat n) h = taken seat n h.0 h.1
event_back (Steal seat victim cut n) h = stolen seat victim n cut h.0 h.1 h.2 h.3
event_back (Report seat n reach rows tried spent) h = reported seat n rows tried reach spent h.0 h.1 h.2 h.3 h.4
event_back (GiveUp seat n) h = given_up seat n h.0 h.1
event_back (Drain rows) h = drained rows h
event_back (StopAt []) h = record { line = codes "stop"; text = refl; one = (refl, (refl, (refl, (refl, tt)))); read = refl }
event_back (StopAt (n ∷ ns)) h = stopped n ns h
event_back (Look seat) h = looked seat h
