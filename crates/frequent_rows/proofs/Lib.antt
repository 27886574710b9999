mod RowLemmas
mod AnswerLemmas
