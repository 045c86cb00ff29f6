mod Written
mod Named
mod Files
