-- Between crates: small texts, read by hand.
use Rattle.std.specs.Prelude.{◌≡◌, ℕ, List, [], ◌∷◌, codes, Some, None, Ok, Err}
use Rattle.kr_base.specs.declared.span.Bound.TheVariants.{At, End}
use Rattle.kr_shard.specs.Shards.{shard_of}

pub record WorkedShards : Type 0 where
  pub first : shard_of (codes "shard start 0.1.0\n0.1.0 P#0{a=1,b=7}\nvalid 1 tried 2\n") ≡ Ok (record { span = record { after = []; upto = At (0 ∷ 1 ∷ 0 ∷ []) }; rows = record { bytes = codes "0.1.0 P#0{a=1,b=7}\n"; count = 1 }; tried = 2; spent = None })
  pub second : shard_of (codes "shard 0.1.0 end\n0.1.1 P#0{a=1,b=9}\nvalid 1 tried 1\n") ≡ Ok (record { span = record { after = 0 ∷ 1 ∷ 0 ∷ []; upto = End }; rows = record { bytes = codes "0.1.1 P#0{a=1,b=9}\n"; count = 1 }; tried = 1; spent = None })
  pub spent : shard_of (codes "shard 0 1\n0.1 a\nspent 1\n") ≡ Ok (record { span = record { after = 0 ∷ []; upto = At (1 ∷ []) }; rows = record { bytes = codes "0.1 a\n"; count = 1 }; tried = 0; spent = Some (1 ∷ []) })
  -- no rows
  pub none : shard_of (codes "shard start end\nvalid 0 tried 0\n") ≡ Ok (record { span = record { after = []; upto = End }; rows = record { bytes = []; count = 0 }; tried = 0; spent = None })
  -- without its last line; nothing; a first line that doesn't end
  pub no_last : shard_of (codes "shard start 0.1.0\n0.1.0 P#0{a=1,b=7}\n") ≡ Err 3
  pub nothing : shard_of [] ≡ Err 1
  pub no_end : shard_of (codes "shard start end") ≡ Err 1
  -- FROM not below TO; no first line
  pub backwards : shard_of (codes "shard 1 1\nvalid 0 tried 0\n") ≡ Err 1
  pub no_first : shard_of (codes "valid 0 tried 0\n") ≡ Err 1
  -- a row equal to the one before, below FROM, above TO, without a rest
  pub equal_rows : shard_of (codes "shard start end\n0 a\n0 a\nvalid 2 tried 2\n") ≡ Err 3
  pub at_from : shard_of (codes "shard 0 end\n0 a\nvalid 1 tried 1\n") ≡ Err 2
  pub above_to : shard_of (codes "shard start 0\n1 a\nvalid 1 tried 1\n") ≡ Err 2
  pub no_rest : shard_of (codes "shard start end\n0 \nvalid 1 tried 1\n") ≡ Err 2
  -- V isn't the number of rows, or above T; T isn't written as it is; T isn't below 2^64
  pub other_count : shard_of (codes "shard start end\n0 a\nvalid 2 tried 2\n") ≡ Err 3
  pub too_few : shard_of (codes "shard start end\n0 a\nvalid 1 tried 0\n") ≡ Err 3
  pub leading_zero : shard_of (codes "shard start end\nvalid 0 tried 00\n") ≡ Err 2
  pub too_large : shard_of (codes "shard start end\nvalid 0 tried 18446744073709551616\n") ≡ Err 2
  pub largest : shard_of (codes "shard start end\nvalid 0 tried 18446744073709551615\n") ≡ Ok (record { span = record { after = []; upto = End }; rows = record { bytes = []; count = 0 }; tried = 18446744073709551615; spent = None })
  -- a spent key not above the last row's
  pub spent_below : shard_of (codes "shard start end\n1 a\nspent 0.5\n") ≡ Err 3
  -- a last line that doesn't end, and one more after it
  pub unended_last : shard_of (codes "shard start end\nvalid 0 tried 0") ≡ Err 2
  pub one_more : shard_of (codes "shard start end\nvalid 0 tried 0\n\n") ≡ Err 3
  pub more_bytes : shard_of (codes "shard start end\nvalid 0 tried 0\nx") ≡ Err 3
