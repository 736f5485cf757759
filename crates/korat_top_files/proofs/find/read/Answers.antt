use Rattle.std.proofs.Common.{◌≤◌, ◌<◌, length, arith}
use Rattle.korat_top_files.proofs.Told.{whole_told, long_told}
use Rattle.korat_top_files.proofs.find.read.Goals as goal

pub returns-then-len-le-MAX_FIN_BYTES-clause-read : goal.returns-then-len-le-MAX_FIN_BYTES-clause-read
returns-then-len-le-MAX_FIN_BYTES-clause-read g c =
    let bytes = c.in-Ok.bytes in
    let short : length bytes.items ≤ 1048576 = omega (arith, c.if-len-le-MAX_FIN_BYTES.true, c.len.ensures, bytes.ok.0) in
    (short, whole_told (g.F.Files.held c.args.files.now c.args.name.now) bytes.items c.in-Ok.ensures.bytes short)

pub returns-in_ok-too_long-in-Ok-clause-read : goal.returns-in_ok-too_long-in-Ok-clause-read
returns-in_ok-too_long-in-Ok-clause-read g c =
    let bytes = c.in-Ok.bytes in
    let long : 1048576 < length bytes.items = omega (arith, c.if-len-le-MAX_FIN_BYTES.false, c.len.ensures, bytes.ok.0) in
    (long_told (g.F.Files.held c.args.files.now c.args.name.now) bytes.items c.in-Ok.ensures.bytes long, c.in_ok-too_long-in-Ok.ensures)
