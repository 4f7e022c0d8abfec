use borrow.Author.Tests.{lt-ltb, le-ltb}
use Rattle.flow_octets.specs.FlowOctets.{word_in}
use Rattle.flow_octets.proofs.word_in.Goals as goal

pub returns-then-i-words : goal.returns-then-i-words
unfolding word_in
returns-then-i-words c = simp (lt-ltb _ _ c.if-i-words.true) c.read32.ensures

pub returns-else-i-words : goal.returns-else-i-words
unfolding word_in
returns-else-i-words c = simp (le-ltb _ _ c.if-i-words.false)
