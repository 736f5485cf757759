-- The code of builders that can be written has tokens and a tree.
use Rattle.std.specs.Prelude.{[], length}
use Rattle.kr_lex.specs.Places.{place_after}
use Rattle.kr_emit_laws.specs.TextLaws.{PrintedLaw}
use Rattle.kr_emit_laws.specs.Pieces as pieces
use Rattle.kr_emit_laws.specs.Pieces.{text_of, tokens_of}
use Rattle.kr_emit_laws.proofs.Derived as derived
use Rattle.kr_emit_laws.proofs.Placed.{placed_shallow, placed_tokens}
use Rattle.kr_emit_laws.proofs.Spelled.{code}

pub read : PrintedLaw
read file builders last few printable comment =
    let placed = code builders last few printable comment in
    record {
      lexed = placed_tokens file (pieces.code builders last) placed;
      parsed = record {
        derived = derived.file (place_after file) builders last printable;
        shallow = placed_shallow (place_after file) (place_after file (text_of (pieces.code builders last))) (pieces.code builders last) placed (length (tokens_of (place_after file) [] (pieces.code builders last)));
      };
    }
