use Rattle.std.proofs.lemmas.Result.{IfOk-weaker}
use Rattle.sb_keys.proofs.KeyTexts.{text_of_front}
use Rattle.sb_keys.proofs.key_source.text_of.Goals as goal

pub returns-in-Ok-clause-text : goal.returns-in-Ok-clause-text
returns-in-Ok-clause-text g c =
    IfOk-weaker c.whole.result _ _
    (λ whole is. text_of_front g.F.Read.remaining c.take-front.result c.args.file 67108864 _ c.read_to_end.new.buf.items whole.items c.take-front.ensures.limit c.take-front.ensures.inner c.new-text.ensures.items
    c.in-Ok.ensures.bytes is.0 is.1)
    c.whole.ensures.whole
