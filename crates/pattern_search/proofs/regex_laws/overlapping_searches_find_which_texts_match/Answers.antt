use Rattle.pattern_search.proofs.ReadLemmas.{all_read}
use Rattle.pattern_search.proofs.regex_laws.overlapping_searches_find_which_texts_match.Goals as goal

pub returns : goal.returns
returns c = λ config texts xs means s p built all feeds h search v set ok.
    let r = all_read config texts xs means in
    (r.0, r.1, c.overlapping_searches_find_which_patterns_match.ensures r.0 xs r.3 s p built all feeds h search v set ok)
