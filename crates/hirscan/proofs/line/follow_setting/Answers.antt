use Rattle.hirscan.proofs.line.follow_setting.Goals as goal

pub returns-in-Utf8 : goal.returns-in-Utf8
returns-in-Utf8 c = rw c.in-Utf8.is c.utf8_line.ensures

pub returns-in-Line : goal.returns-in-Line
returns-in-Line c = rw c.in-Line.is c.terminator_line.ensures

pub returns-in-Capacity : goal.returns-in-Capacity
returns-in-Capacity c = rw c.in-Capacity.is c.capacity_line.ensures

pub returns-in-Quit : goal.returns-in-Quit
returns-in-Quit c = rw c.in-Quit.is c.quit_line.ensures

pub returns-in-Shrink : goal.returns-in-Shrink
returns-in-Shrink c = rw c.in-Shrink.is c.shrink_line.ensures

pub returns-in-Anchored : goal.returns-in-Anchored
returns-in-Anchored c = rw c.in-Anchored.is c.anchored_line.ensures

pub returns-in-Span : goal.returns-in-Span
returns-in-Span c = rw c.in-Span.is c.span_line.ensures
