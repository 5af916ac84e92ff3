-- Proof of `lines::text::Text::put`: the bytes that there is room for follow the text.
-- Assumes: nothing.
use Rattle.std.proofs.Common.{rules}
use Rattle.lines.proofs.TextLaws.{put_follows}
use Rattle.lines.proofs.text.Text.put.Goals as goal

pub returns : goal.returns
returns c = search (rules, put_follows)
