use Rattle.kr_code_members.proofs.Signed.{signed_method}
use Rattle.kr_code_members.proofs.methods.with_signature.Goals as goal

pub returns-in-Signature : goal.returns-in-Signature
returns-in-Signature c =
    let a = c.args in
    let r = c.requires in
    signed_method a.program.now r.program a.file a.class a.member r.member a.here r.here a.is_static a.name a.signature a.body r.node c.entry.result c.entry.ensures c.in-Signature.result c.in-Signature.parameters c.in-Signature.contracts c.in-Signature.is
