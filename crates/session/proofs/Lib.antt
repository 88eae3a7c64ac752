mod Texts
mod Numbered
mod Answers
mod Order
mod Written
