use Rattle.hirscan.proofs.OneReplyLemmas.{listed_once, refused_alone}
use Rattle.hirscan.proofs.SomeReplyLemmas.{refused_or_asked}
use Rattle.hirscan.proofs.laws.replies_agree.Goals as goal

pub returns-clause-some : goal.returns-clause-some
returns-clause-some c = refused_or_asked

pub returns-clause-refused : goal.returns-clause-refused
returns-clause-refused c = refused_alone

pub returns-clause-listed : goal.returns-clause-listed
returns-clause-listed c = listed_once
