use denote.Exit.{no}
use denote.Param.Send.{arg_send, arg_sync, param_send, param_sync}
use Rattle.meta_regex.proofs.ForCallers.{regex_send, regex_sync}
use Rattle.hanneddois.proofs.copied.Goals as goal

pub shareable-requires-send-T : goal.shareable-requires-send-T
shareable-requires-send-T c κs = param_send 0 _ (arg_send _ no _ regex_send)

pub shareable-requires-sync-T : goal.shareable-requires-sync-T
shareable-requires-sync-T c κs = param_sync 0 _ (arg_sync _ no _ regex_sync)
