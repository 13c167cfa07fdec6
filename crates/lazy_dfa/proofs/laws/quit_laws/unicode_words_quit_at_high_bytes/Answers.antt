use Rattle.lazy_dfa.proofs.Automata.QuitSetLemmas.{supported_quits}
use Rattle.lazy_dfa.proofs.laws.quit_laws.unicode_words_quit_at_high_bytes.Goals as goal

pub returns : goal.returns
returns c = λ a boundaries set b fine unicode from to. supported_quits a boundaries set b fine unicode from to
