use Rattle.std.proofs.Common.{Some, arith}
use Rattle.ucd_perl.specs.Perl.{is_word_char}
use Rattle.pattern_text.specs.Words.{word_set}
use Rattle.pattern_search.specs.Searches.{whole_search}
use Rattle.pattern_search.proofs.RegexLemmas.{found_by_settings, told_by_settings, listed_by_settings, all_by_settings, starts_by_settings}
use Rattle.pattern_search.proofs.RegexLemmas.{pattern_by_settings}
use Rattle.pattern_search.proofs.regex_laws.regexes_answer_what_patterns_say.Goals as goal

pub returns : goal.returns
returns g = λ res xs ends spans s p built first feeds. record {
  found = λ loops h at search c o answers. found_by_settings res xs ends spans s feeds h at search loops o
      (g.searches_answer_what_trees_define.ensures xs s p built first (whole_search h at) search loops c o answers is_word_char word_set);
  reported = λ loops h at search c b answers. told_by_settings res xs ends spans s feeds h at search loops b
      (g.matches_are_told_as_trees_define.ensures xs s p built first (whole_search h at) search loops c b answers is_word_char word_set);
  listed = λ loops h at n search place enough fs old new same taken ends_there. listed_by_settings res xs ends spans s feeds h at
      search loops n enough fs
      (g.iterators_list_the_answers.ensures.whole xs s p built first
      (whole_search h at) search loops place fs old new same taken ends_there is_word_char
      word_set);
  all = λ loops h search fs old new same taken ends_there. all_by_settings res xs ends spans s feeds h search loops fs
      (g.iterators_list_the_answers.ensures.whole xs s p built first (whole_search h 0) search loops
      (omega arith) fs old new same taken ends_there
      is_word_char word_set);
  starts = λ h at search c o answers. starts_by_settings res xs ends spans s feeds h at search o
      (g.searches_answer_leftmost_whatever_the_loops.ensures xs s p built first
      (whole_search h at) search c o answers is_word_char word_set);
  pattern = λ h at search c f answers. pattern_by_settings res xs ends spans s feeds h at search f
      (g.searches_answer_leftmost_whatever_the_loops.ensures xs s p built first (whole_search h at) search c
      (Some f) answers is_word_char word_set);
}
