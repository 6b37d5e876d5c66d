use Rattle.rc_sitetext.proofs.Appends.{marked_more, marked_end}
use Rattle.rc_sitetext.proofs.writer.put_flags.Goals as goal

pub returns : goal.returns
returns c =
    marked_more _ _ _ _ _ _ _ c.in_ok-put_flag.ensures
    (marked_more _ _ _ _ _ _ _ c.in_ok-put_flag-2.ensures
    (marked_more _ _ _ _ _ _ _ c.in_ok-put_flag-3.ensures
    (marked_more _ _ _ _ _ _ _ c.in_ok-put_flag-4.ensures
    (marked_more _ _ _ _ _ _ _ c.in_ok-put_flag-5.ensures
    (marked_more _ _ _ _ _ _ _ c.in_ok-put_flag-6.ensures
    (marked_more _ _ _ _ _ _ _ c.in_ok-put_flag-7.ensures
    (marked_more _ _ _ _ _ _ _ c.in_ok-put_flag-8.ensures
    (marked_more _ _ _ _ _ _ _ c.in_ok-put_flag-9.ensures
    (marked_end _ _ _ _ c.in_ok-put_flag-10.ensures)))))))))
